-- Result files: what somebody says of a network, in the form in which netcheck prints it.
use Rattle.std.specs.Prelude.{◌≡◌, ℕ, ◌+◌, ◌<◌, ◌≤◌, ◌⊎◌, ◌↔◌, List, [], ◌++◌, length, Option, Some, None, slice_index}
use Rattle.numbering.specs.Numbers.{held_number}
use Rattle.numbering.specs.Outcomes.{count_held}
use Rattle.loads.specs.Loads.{packet}
use Rattle.loads.specs.declared.LoadRecord.{LoadRecord}
use Rattle.checks.specs.declared.outcome.Check.{Check}
use Rattle.checks.specs.declared.outcome.Verdict.TheVariants as verdicts
use Rattle.answers.specs.Prints.{verdict_line, channel_line, channel_lines}

-- numbers of four digits at most
abbrev pub Short : ℕ → Type 0
Short n = n < 10000

-- What is said of a channel: it has a number and no packet, or it is held, with a packet for a place.
pub data Said : ℕ → Option ℕ → Type 0 where
  number : (m : ℕ) → Short m → Said m None
  place : (d : ℕ) → Short d → Said held_number (Some d)

-- what is said of each of the first n channels
abbrev pub SaidOfAll : ℕ → List ℕ → List LoadRecord → Type 0
SaidOfAll n numbers load = (c : ℕ) → c < n → Said (slice_index numbers c) (packet load c)

-- the numbers of a first line
pub record ShortLine (k : Check) : Type 0 where
  pub greatest : Short k.numbering.greatest
  pub held : Short k.numbering.held

-- m is the greatest number of the first n channels that are not held, or 0 if there is none.
pub record Greatest (n : ℕ) (numbers : List ℕ) (m : ℕ) : Type 0 where
  pub none_above : (c : ℕ) → c < n → (slice_index numbers c ≡ held_number → ⊥) → slice_index numbers c ≤ m
  pub given : (m ≡ 0) ⊎ ((c : ℕ) × (c < n) × (slice_index numbers c ≡ held_number → ⊥) × (slice_index numbers c ≡ m))

-- The first line agrees with the lines of the first n channels: how many are held, whether none is, and the greatest number.
pub record Agrees (n : ℕ) (numbers : List ℕ) (k : Check) : Type 0 where
  pub held : k.numbering.held ≡ count_held n numbers
  pub free : (k.verdict ≡ verdicts.Free) ↔ (k.numbering.held ≡ 0)
  pub greatest : Greatest n numbers k.numbering.greatest

-- The file begins with a first line and with lines of the first c channels. What comes behind them is the rest.
pub record Begins (file : List ℕ) (k : Check) (c : ℕ) (numbers : List ℕ) (load : List LoadRecord) (rest : List ℕ) : Type 0 where
  pub line : ShortLine k
  pub said : SaidOfAll c numbers load
  pub text : file ≡ verdict_line k ++ (channel_lines numbers load c ++ rest)

-- The file is a result for n channels.
pub record IsResult (n : ℕ) (file : List ℕ) (k : Check) (numbers : List ℕ) (load : List LoadRecord) : Type 0 where
  pub begins : Begins file k n numbers load []
  pub agrees : Agrees n numbers k

-- the number of the refusal of a line, and of one of a first line that does not agree with the others
abbrev pub bad_line : ℕ
bad_line = 70

abbrev pub no_agreement : ℕ
no_agreement = 71

-- Why a file is no result for n channels, and the line that is told: the first that is not as it should be, which may be missing or one
-- too many; or the first line, if all are but the first does not agree with the others.
pub data NoResult (n : ℕ) (file : List ℕ) : ℕ → ℕ → Type 0 where
  verdict : ((k : Check) (rest : List ℕ) → ShortLine k → file ≡ verdict_line k ++ rest → ⊥) → NoResult n file bad_line 1
  channel : (c : ℕ) → c < n → (k : Check) (numbers : List ℕ) (load : List LoadRecord) (rest : List ℕ) → Begins file k c numbers load rest → ((word : ℕ) (place : Option ℕ) (more : List ℕ) → Said word place → rest ≡ channel_line c word place ++ more → ⊥) → NoResult n file bad_line (c + 2)
  more : (k : Check) (numbers : List ℕ) (load : List LoadRecord) (rest : List ℕ) → Begins file k n numbers load rest → 1 ≤ length rest → NoResult n file bad_line (n + 2)
  first : (k : Check) (numbers : List ℕ) (load : List LoadRecord) → Begins file k n numbers load [] → (Agrees n numbers k → ⊥) → NoResult n file no_agreement 1
