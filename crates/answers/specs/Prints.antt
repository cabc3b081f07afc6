-- What netcheck prints.
use Rattle.std.specs.Prelude.{◌≡◌, ℕ, zero, suc, ◌<◌, ◌≤◌, ◌⊎◌, cond, List, [], ◌∷◌, ◌++◌, length, codes, decimal, Option, Some, None, nat_eq, slice_index}
use Rattle.lines.specs.Pieces.{RawLine, lines_of}
use Rattle.records.specs.declared.Record.{Record}
use Rattle.records.specs.declared.Size.{Size}
use Rattle.records.specs.declared.faults.Parts.{Parts}
use Rattle.records.specs.declared.faults.TextFault.TheVariants.{NoSize}
use Rattle.records.specs.Faults.{word_of}
use Rattle.networks.specs.declared.faults.Buffer.TheVariants.{File}
use Rattle.networks.specs.declared.faults.StudyFault.{StudyFault}
use Rattle.networks.specs.declared.faults.StudyFault.TheVariants.{Table, Short}
use Rattle.networks.specs.declared.faults.TableFault.{TableFault}
use Rattle.networks.specs.declared.faults.TableFault.TheVariants.{Text, NoMemory}
use Rattle.networks.specs.Faults.{study_parts}
use Rattle.networks.specs.Nets.{Net}
use Rattle.numbering.specs.Numbers.{held_number}
use Rattle.loads.specs.Loads.{packet}
use Rattle.checks.specs.Words.{verdict_word}
use Rattle.loads.specs.declared.LoadRecord.{LoadRecord}
use Rattle.checks.specs.declared.outcome.Check.{Check}
use Rattle.certificates.specs.Certificates.{Certified}
use Rattle.tables.specs.Drawn.{drawn}
use Rattle.netfiles.specs.Reading.{Accepted, Refused, FirstLine, Wanting}
use Rattle.answers.specs.declared.Findings.{Findings}

-- a number as the last field of a line, and as one that others follow
abbrev pub last_field : ℕ → List ℕ
last_field n = decimal n ++ (10 ∷ [])

abbrev pub field : ℕ → List ℕ → List ℕ
field n rest = decimal n ++ (9 ∷ rest)

abbrev pub fault_line : Parts → List ℕ
fault_line p = codes "fault\t" ++ (word_of p.layer ++ (9 ∷ field p.number (field p.line (last_field p.field))))

-- a number if there is one, and else a dash
abbrev pub mark : Option ℕ → List ℕ
mark None = codes "-"
mark (Some n) = decimal n

-- the number of a channel that is not held
abbrev pub number_of : ℕ → Option ℕ
number_of word = cond (nat_eq word held_number) None (Some word)

-- the line of a channel: its number, and the place of its packet in the blocked load
abbrev pub channel_line : ℕ → ℕ → Option ℕ → List ℕ
channel_line c word place = codes "c\t" ++ field c (mark (number_of word) ++ (9 ∷ (mark place ++ (10 ∷ []))))

-- the lines of the first n channels
unfoldable pub channel_lines : List ℕ → List LoadRecord → ℕ → List ℕ
channel_lines numbers load zero = []
channel_lines numbers load (suc c) = channel_lines numbers load c ++ channel_line c (slice_index numbers c) (packet load c)

abbrev pub verdict_line : Check → List ℕ
verdict_line k = codes "verdict\t" ++ (verdict_word k.verdict ++ (9 ∷ field k.numbering.greatest (last_field k.numbering.held)))

-- the verdict, the greatest number and the count of held channels, and then a line for each channel
abbrev pub verdict_text : Findings → List ℕ
verdict_text a = verdict_line a.certificate.check ++ channel_lines a.numbers a.load a.channels

-- how many bytes and records, and which networks netcheck takes
abbrev pub most_bytes : ℕ
most_bytes = 32768

abbrev pub most_records : ℕ
most_records = 2048

pub record Fits (s : Size) : Type 0 where
  pub channels : s.channels ≤ 128
  pub places : s.places ≤ 32

-- What is found of a network: a certificate with all that it promises of packets at work, made in some buffers.
pub record Finds (n : Net) (a : Findings) : Type 0 where
  pub channels : a.channels ≡ n.channels
  pub long : n.channels ≤ length a.numbers
  pub table : List ℕ
  pub table' : List ℕ
  pub numbers : List ℕ
  pub load : List LoadRecord
  pub longest : List ℕ
  pub longest' : List ℕ
  pub certified : Certified n table table' numbers a.numbers load a.load longest longest' a.certificate

-- The network of a file that netcheck takes.
pub record Takes (input : List ℕ) (n : Net) : Type 0 where
  pub short : length input ≤ most_bytes
  pub size : Size
  pub list : List Record
  pub accepted : Accepted input most_records size list
  pub fits : Fits size
  pub network : n ≡ drawn size list

-- What is found of it.
pub record Accepts (input : List ℕ) (n : Net) (a : Findings) : Type 0 where
  pub takes : Takes input n
  pub finds : Finds n a

-- Why netcheck does not take an input: it is too long; the file in it is refused; it is accepted, and the network is too large.
pub data Rejects (input : List ℕ) (f : StudyFault) : Type 0 where
  long : most_bytes < length input → f ≡ Short File → Rejects input f
  refused : length input ≤ most_bytes → (t : TableFault) → Refused input most_records t → f ≡ Table t → Rejects input f
  large : length input ≤ most_bytes → (s : Size) (rs : List Record) → Accepted input most_records s rs → (Fits s → ⊥) → f ≡ Short File → Rejects input f

pub data Prints (input : List ℕ) (text : List ℕ) : Type 0 where
  accepts : (n : Net) (a : Findings) → Accepts input n a → text ≡ verdict_text a → Prints input text
  rejects : (f : StudyFault) → Rejects input f → text ≡ fault_line (study_parts f) → Prints input text

-- The text is what is printed for the input, and nothing else is.
pub record Answers (input text : List ℕ) : Type 0 where
  pub prints : Prints input text
  pub only : (other : List ℕ) → Prints input other → other ≡ text

-- Memory for the network cannot be had. That comes only after the input's length and the size in its first line are in order.
pub record Starves (input : List ℕ) (f : StudyFault) : Type 0 where
  pub short : length input ≤ most_bytes
  pub wanting : Wanting input NoMemory
  pub fault : f ≡ Table NoMemory

-- The answer to the input; want of memory is answered too.
abbrev pub Answered : List ℕ → List ℕ → Type 0
Answered input text = Answers input text ⊎ (Starves input (Table NoMemory) × (text ≡ fault_line (study_parts (Table NoMemory))))

-- A fault to which memory is nothing is told whatever memory there is: that the input is too long; else that it is empty, or the fault of its
-- first line.
pub record EarlyTold (input text : List ℕ) : Type 0 where
  pub long : most_bytes < length input → text ≡ fault_line (study_parts (Short File))
  pub empty : input ≡ [] → text ≡ fault_line (study_parts (Table (Text NoSize)))
  pub line : length input ≤ most_bytes → (l : RawLine) (ls : List RawLine) (f : TableFault) → lines_of input ≡ l ∷ ls → FirstLine l f → text ≡ fault_line (study_parts (Table f))
