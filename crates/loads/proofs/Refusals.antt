-- Which refusal is told: of the reasons that apply, the one with the lowest number.
use Rattle.std.proofs.Common.{◌≡◌, ℕ, ◌<◌, ◌≤◌, inl, inr, true, false, List, length, Some, None, Option, Err, ok_or, arith}
use Rattle.networks.specs.Nets.{Net, WayAt}
use Rattle.networks.specs.declared.faults.Buffer.TheVariants.{Load}
use Rattle.networks.specs.declared.faults.StudyFault.TheVariants.{Short}
use Rattle.loads.specs.Faults.{load_parts}
use Rattle.loads.specs.Loads.{packet, At, Holds}
use Rattle.loads.specs.Calls.{Told, AgainstPut, AgainstMove, AgainstTake, short, no_channel, no_place, no_entry, taken, empty, home, no_way, away}
use Rattle.loads.specs.Looking.{NoChannel, NoPacket}
use Rattle.loads.specs.declared.LoadRecord.{LoadRecord}
use Rattle.loads.specs.declared.faults.LoadFault.{LoadFault}
use Rattle.loads.specs.declared.faults.LoadFault.TheVariants.{Study, NoSuchChannel, NoSuchPlace, NoEntry, ChannelTaken, ChannelEmpty, Home, NotHome, NoSuchWay, WayTaken}

-- no reason has a number below k
abbrev NoneBelow : ℕ → (LoadFault → Type 0) → Type 0
NoneBelow k Against = (g : LoadFault) → Against g → k ≤ (load_parts g).number

-- one packet stands in a channel
pub same_place : (n : Net) (load : List LoadRecord) (c d x : ℕ) → At n load c d → At n load c x → x ≡ d
same_place n load c d x at y = cc (at.1, y.1)

-- what is told of a put
module _ {n : Net} {load : List LoadRecord} {c d : ℕ} where
  pub put_short : length load < n.channels → Told (AgainstPut n load c d) (Study (Short Load))
  put_short s = record { applies = short s; lowest = low }
    where
      low : NoneBelow 20 (AgainstPut n load c d)
      low g (short s) = omega arith
      low g a = omega arith

  module _ (r : n.channels ≤ length load) where
    pub put_no_channel : n.channels ≤ c → Told (AgainstPut n load c d) NoSuchChannel
    put_no_channel m = record { applies = no_channel m; lowest = low }
      where
        low : NoneBelow 30 (AgainstPut n load c d)
        low g (short s) = absurd (omega arith)
        low g a = omega arith

    module _ (l : c < n.channels) where
      pub put_no_place : n.places ≤ d → Told (AgainstPut n load c d) NoSuchPlace
      put_no_place m = record { applies = no_place m; lowest = low }
        where
          low : NoneBelow 31 (AgainstPut n load c d)
          low g (short s) = absurd (omega arith)
          low g (no_channel s) = absurd (omega arith)
          low g a = omega arith

      module _ (p : d < n.places) where
        pub put_no_entry : n.entry c d ≡ false → Told (AgainstPut n load c d) NoEntry
        put_no_entry e = record { applies = no_entry e; lowest = low }
          where
            low : NoneBelow 32 (AgainstPut n load c d)
            low g (short s) = absurd (omega arith)
            low g (no_channel s) = absurd (omega arith)
            low g (no_place s) = absurd (omega arith)
            low g a = omega arith

        pub put_taken : n.entry c d ≡ true → AgainstPut n load c d ChannelTaken → Told (AgainstPut n load c d) ChannelTaken
        put_taken e against = record { applies = against; lowest = low }
          where
            low : NoneBelow 33 (AgainstPut n load c d)
            low g (short s) = absurd (omega arith)
            low g (no_channel s) = absurd (omega arith)
            low g (no_place s) = absurd (omega arith)
            low g (no_entry s) = absurd (cc)
            low g a = omega arith

-- what is told of a move
module _ {n : Net} {load : List LoadRecord} {c k : ℕ} where
  pub move_short : length load < n.channels → Told (AgainstMove n load c k) (Study (Short Load))
  move_short s = record { applies = short s; lowest = low }
    where
      low : NoneBelow 20 (AgainstMove n load c k)
      low g (short s) = omega arith
      low g a = omega arith

  module _ (r : n.channels ≤ length load) where
    pub move_no_channel : n.channels ≤ c → Told (AgainstMove n load c k) NoSuchChannel
    move_no_channel m = record { applies = no_channel m; lowest = low }
      where
        low : NoneBelow 30 (AgainstMove n load c k)
        low g (short s) = absurd (omega arith)
        low g a = omega arith

    pub move_empty : c < n.channels → packet load c ≡ None → Told (AgainstMove n load c k) ChannelEmpty
    move_empty l e = record { applies = empty e; lowest = low }
      where
        low : NoneBelow 34 (AgainstMove n load c k)
        low g (short s) = absurd (omega arith)
        low g (no_channel s) = absurd (omega arith)
        low g a = omega arith

    module _ {d : ℕ} (at : At n load c d) where
      pub move_home : n.home c d ≡ true → Told (AgainstMove n load c k) Home
      move_home h = record { applies = home d at h; lowest = low }
        where
          low : NoneBelow 35 (AgainstMove n load c k)
          low g (short s) = absurd (omega arith)
          low g (no_channel s) = absurd (omega (arith, at.0))
          low g (empty e) = absurd (cc (e, at.1))
          low g a = omega arith

      module _ (away : n.home c d ≡ false) where
        pub move_no_way : WayAt (n.ways c d) k None → Told (AgainstMove n load c k) NoSuchWay
        move_no_way w = record { applies = no_way d at w; lowest = low }
          where
            low : NoneBelow 37 (AgainstMove n load c k)
            low g (short s) = absurd (omega arith)
            low g (no_channel s) = absurd (omega (arith, at.0))
            low g (empty e) = absurd (cc (e, at.1))
            low g (home x y h) = absurd (cc (h, away, same_place n load c d x at y))
            low g a = omega arith

        pub move_taken : (h : ℕ) → WayAt (n.ways c d) k (Some h) → Holds n load h → Told (AgainstMove n load c k) WayTaken
        move_taken h w holds = record { applies = taken d h at w holds; lowest = low }
          where
            low : NoneBelow 38 (AgainstMove n load c k)
            low g (short s) = absurd (omega arith)
            low g (no_channel s) = absurd (omega (arith, at.0))
            low g (empty e) = absurd (cc (e, at.1))
            low g (home x y h) = absurd (cc (h, away, same_place n load c d x at y))
            low g (no_way x y v) = let v' : length (n.ways c d) ≤ k = rw (same_place n load c d x at y) at v in absurd (omega (arith, w.0))
            low g a = omega arith

-- what is told of a take
module _ {n : Net} {load : List LoadRecord} {c : ℕ} where
  pub take_short : length load < n.channels → Told (AgainstTake n load c) (Study (Short Load))
  take_short s = record { applies = short s; lowest = low }
    where
      low : NoneBelow 20 (AgainstTake n load c)
      low g (short s) = omega arith
      low g a = omega arith

  module _ (r : n.channels ≤ length load) where
    pub take_no_channel : n.channels ≤ c → Told (AgainstTake n load c) NoSuchChannel
    take_no_channel m = record { applies = no_channel m; lowest = low }
      where
        low : NoneBelow 30 (AgainstTake n load c)
        low g (short s) = absurd (omega arith)
        low g a = omega arith

    pub take_empty : c < n.channels → packet load c ≡ None → Told (AgainstTake n load c) ChannelEmpty
    take_empty l e = record { applies = empty e; lowest = low }
      where
        low : NoneBelow 34 (AgainstTake n load c)
        low g (short s) = absurd (omega arith)
        low g (no_channel s) = absurd (omega arith)
        low g a = omega arith

    pub take_away : {d : ℕ} → At n load c d → n.home c d ≡ false → Told (AgainstTake n load c) NotHome
    take_away {d} at f = record { applies = away d at f; lowest = low }
      where
        low : NoneBelow 36 (AgainstTake n load c)
        low g (short s) = absurd (omega arith)
        low g (no_channel s) = absurd (omega (arith, at.0))
        low g (empty e) = absurd (cc (e, at.1))
        low g a = omega arith

-- what is told where no channel, or no packet, was found to look at
pub put_no_channel_told : (n : Net) (load : List LoadRecord) (c d : ℕ) (f : LoadFault) → NoChannel n load c f → Told (AgainstPut n load c d) f
put_no_channel_told n load c d f (inl x) = rw x.1 (put_short x.0)
put_no_channel_told n load c d f (inr x) = rw x.2 (put_no_channel x.0 x.1)

pub move_no_packet_told : (n : Net) (load : List LoadRecord) (c k : ℕ) (f : LoadFault) → NoPacket n load c f → Told (AgainstMove n load c k) f
move_no_packet_told n load c k f (inl (inl x)) = rw x.1 (move_short x.0)
move_no_packet_told n load c k f (inl (inr x)) = rw x.2 (move_no_channel x.0 x.1)
move_no_packet_told n load c k f (inr x) = rw x.3 (move_empty x.0 x.1 x.2)

pub take_no_packet_told : (n : Net) (load : List LoadRecord) (c : ℕ) (f : LoadFault) → NoPacket n load c f → Told (AgainstTake n load c) f
take_no_packet_told n load c f (inl (inl x)) = rw x.1 (take_short x.0)
take_no_packet_told n load c f (inl (inr x)) = rw x.2 (take_no_channel x.0 x.1)
take_no_packet_told n load c f (inr x) = rw x.3 (take_empty x.0 x.1 x.2)

-- the refusal that is made of a missing way
pub missing_way : (way : Option ℕ) (f : LoadFault) → way ≡ None → Err f ≡ ok_or way NoSuchWay → f ≡ NoSuchWay
missing_way way f none e = cc (none, e)
