-- The Spidergon of size n: a ring of 4 × n switches, each with a link to the one across. Channel 4 × s + k leaves switch s.
use Rattle.std.specs.Prelude.{ℕ, ◌+◌, ◌-◌, ◌*◌, ◌/◌, ◌%◌, Bool, cond, ◌&&◌, [], ◌∷◌, ◌==◌, nat_le, nat_lt}
use Rattle.networks.specs.Nets.{Net}

-- the switch to which port k of switch s leads: itself, the next, the one before, the one across
abbrev pub port : ℕ → ℕ → ℕ → ℕ
port n s k = cond (k == 0) s (cond (k == 1) ((s + 1) % (4 * n)) (cond (k == 2) ((s + 4 * n - 1) % (4 * n)) ((s + 2 * n) % (4 * n))))

-- the switch to which a channel leads
abbrev pub leads : ℕ → ℕ → ℕ
leads n c = port n (c / 4) (c % 4)

-- how far place d lies ahead of switch h
abbrev pub relative : ℕ → ℕ → ℕ → ℕ
relative n h d = (d + 4 * n - h) % (4 * n)

-- the channel that a packet takes at switch h, where its place lies r ahead: on along the ring while that is at most a
-- quarter of it, back where it is at most a quarter the other way, otherwise across
abbrev pub step : ℕ → ℕ → ℕ → ℕ
step n h r = cond (nat_le r n) (4 * h + 1) (cond (nat_le (3 * n) r) (4 * h + 2) (4 * h + 3))

abbrev pub within : ℕ → ℕ → ℕ → Bool
within n c d = nat_lt c (16 * n) && nat_lt d (4 * n)

-- Packets enter by local channels, and are home where their channel leads to their place; a home pair has no way, and any
-- other has one.
abbrev pub spidergon : ℕ → Net
spidergon n =
    record {
      channels = 16 * n;
      places = 4 * n;
      entry = λ c d. within n c d && (c % 4 == 0);
      home = λ c d. within n c d && (leads n c == d);
      ways = λ c d. cond (within n c d) (cond (leads n c == d) [] (step n (leads n c) (relative n (leads n c) d) ∷ [])) [];
    }
