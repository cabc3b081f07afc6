-- The worked cases.
use Rattle.std.specs.Prelude.{ℕ, Bool, true, false, List, [], ◌∷◌, replicate, codes}
use Rattle.std.specs.List.{concat}
use Rattle.records.specs.declared.Record.TheVariants.{Entry, Home, Way}
use Rattle.records.specs.declared.Size.{Size}
use Rattle.numbering.specs.Numbers.{held_number}
use Rattle.loads.specs.Loads.{nothing, packet_for}
use Rattle.loads.specs.Runs.{MoveOn, Take}
use Rattle.checks.specs.declared.outcome.Verdict.{Verdict}
use Rattle.checks.specs.declared.outcome.Verdict.TheVariants.{Free, Blocked}
use Rattle.certificates.specs.declared.Certificate.{Certificate}
use Rattle.cases.specs.Cases.{Records, Ring, Case}

abbrev size : ℕ → ℕ → Size
size channels places = record { channels = channels; places = places }

-- the certificate with this verdict, this greatest number of a channel and so many held channels, of a network that is arriving or not and
-- has so many held pairs
abbrev certificate : Verdict → ℕ → ℕ → Bool → ℕ → Certificate
certificate verdict greatest channels arriving pairs =
    record { check = record { verdict = verdict; numbering = record { greatest = greatest; held = channels } }; routes = record { arriving = arriving; held = pairs } }

-- From each of two channels packets go to the other, and there is no other way.
abbrev pub crossing : Case
crossing = record {
  name = codes "crossing pair";
  source = Records (size 2 2) (Entry 0 1 ∷ (Entry 1 0 ∷ (Home 0 0 ∷ (Home 1 1 ∷ (Way 0 1 1 ∷ (Way 1 0 0 ∷ []))))));
  buffers = record {
    table = 1 ∷ (1 ∷ (1 ∷ (1 ∷ [])));
    numbers = held_number ∷ (held_number ∷ []);
    load = packet_for 1 ∷ (packet_for 0 ∷ []);
    longest = 0 ∷ (1 ∷ (1 ∷ (0 ∷ [])));
  };
  certificate = certificate Blocked 0 2 true 0;
  emptyings = [];
}

-- The same, and from the first channel packets may go to a third, in which they are home.
abbrev pub crossing_with_exit : Case
crossing_with_exit = record {
  name = codes "crossing pair with an exit channel";
  source = Records (size 3 2) (Entry 0 1 ∷ (Entry 1 0 ∷ (Home 0 0 ∷ (Home 1 1 ∷ (Way 0 1 1 ∷ (Way 1 0 0 ∷ (Home 2 1 ∷ (Way 0 1 2 ∷ []))))))));
  buffers = record {
    table = 1 ∷ (1 ∷ (1 ∷ (1 ∷ (0 ∷ (1 ∷ [])))));
    numbers = 1 ∷ (2 ∷ (0 ∷ []));
    load = nothing ∷ (nothing ∷ (nothing ∷ []));
    longest = 0 ∷ (1 ∷ (1 ∷ (0 ∷ (0 ∷ (0 ∷ [])))));
  };
  certificate = certificate Free 2 0 true 0;
  emptyings = record { load = packet_for 1 ∷ (packet_for 0 ∷ (nothing ∷ [])); calls = MoveOn 0 1 ∷ (Take 2 ∷ (MoveOn 1 0 ∷ (Take 0 ∷ []))) } ∷ [];
}

-- One channel and one place in each of the next four cases. Packets are put in and can go nowhere.
abbrev pub dead_end : Case
dead_end = record {
  name = codes "dead end with an entry";
  source = Records (size 1 1) (Entry 0 0 ∷ []);
  buffers = record {
    table = 1 ∷ [];
    numbers = held_number ∷ [];
    load = packet_for 0 ∷ [];
    longest = held_number ∷ [];
  };
  certificate = certificate Blocked 0 1 false 1;
  emptyings = [];
}

-- No packet is ever put in.
abbrev pub no_entry : Case
no_entry = record {
  name = codes "dead end without an entry";
  source = Records (size 1 1) [];
  buffers = record {
    table = 0 ∷ [];
    numbers = 0 ∷ [];
    load = nothing ∷ [];
    longest = 0 ∷ [];
  };
  certificate = certificate Free 0 0 true 0;
  emptyings = [];
}

-- The one way leads back to the channel itself.
abbrev pub back : Case
back = record {
  name = codes "channel that leads back to itself";
  source = Records (size 1 1) (Entry 0 0 ∷ (Way 0 0 0 ∷ []));
  buffers = record {
    table = 1 ∷ [];
    numbers = held_number ∷ [];
    load = packet_for 0 ∷ [];
    longest = held_number ∷ [];
  };
  certificate = certificate Blocked 0 1 false 1;
  emptyings = [];
}

-- The same, but packets are home, so the way is not followed.
abbrev pub back_home : Case
back_home = record {
  name = codes "channel that leads back to itself and is home";
  source = Records (size 1 1) (Entry 0 0 ∷ (Way 0 0 0 ∷ (Home 0 0 ∷ [])));
  buffers = record {
    table = 1 ∷ [];
    numbers = 0 ∷ [];
    load = nothing ∷ [];
    longest = 0 ∷ [];
  };
  certificate = certificate Free 0 0 true 0;
  emptyings = [];
}

-- Packets may go to and fro between two channels for ever, but a way leads out of the loop.
abbrev pub loop : Case
loop = record {
  name = codes "loop with a way out";
  source = Records (size 3 1) (Entry 0 0 ∷ (Home 2 0 ∷ (Way 0 0 1 ∷ (Way 0 0 2 ∷ (Way 1 0 0 ∷ [])))));
  buffers = record {
    table = 1 ∷ (1 ∷ (1 ∷ []));
    numbers = 1 ∷ (2 ∷ (0 ∷ []));
    load = nothing ∷ (nothing ∷ (nothing ∷ []));
    longest = held_number ∷ (held_number ∷ (0 ∷ []));
  };
  certificate = certificate Free 2 0 false 2;
  emptyings = [];
}

-- what stands in the four pairs of a channel, or in the four channels that leave a switch
abbrev row : ℕ → ℕ → ℕ → ℕ → List ℕ
row a b c d = a ∷ (b ∷ (c ∷ (d ∷ [])))

-- Four switches, of each of which the local channel and those to the next switch, the one before and the one across follow in turn: packets
-- come in by the local channels, which alone have needs, and are home after one move or none.
abbrev pub smallest_spidergon : Case
smallest_spidergon = record {
  name = codes "Spidergon of size 1";
  source = Ring 1;
  buffers = record {
    table = concat (
        row 1 1 1 1 ∷ (row 0 1 0 0 ∷ (row 0 0 0 1 ∷ (row 0 0 1 0 ∷
        (row 1 1 1 1 ∷ (row 0 0 1 0 ∷ (row 1 0 0 0 ∷ (row 0 0 0 1 ∷
        (row 1 1 1 1 ∷ (row 0 0 0 1 ∷ (row 0 1 0 0 ∷ (row 1 0 0 0 ∷
        (row 1 1 1 1 ∷ (row 1 0 0 0 ∷ (row 0 0 1 0 ∷ (row 0 1 0 0 ∷ []))))))))))))))));
    numbers = concat (replicate 4 (row 1 0 0 0));
    load = replicate 16 nothing;
    longest = concat (
        row 0 1 1 1 ∷ (replicate 12 0 ∷
        (row 1 0 1 1 ∷ (replicate 12 0 ∷
        (row 1 1 0 1 ∷ (replicate 12 0 ∷
        (row 1 1 1 0 ∷ (replicate 12 0 ∷ []))))))));
  };
  certificate = certificate Free 1 0 true 0;
  emptyings = [];
}

abbrev pub worked : List Case
worked = crossing ∷ (crossing_with_exit ∷ (dead_end ∷ (no_entry ∷ (back ∷ (back_home ∷ (loop ∷ (smallest_spidergon ∷ [])))))))
