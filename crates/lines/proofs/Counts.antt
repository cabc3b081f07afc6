-- How many fields `count` finds.
use Rattle.std.proofs.Common.{◌≡◌, ℕ, ◌+◌, ◌^◌, ◌<◌, List, length, Option, ap}
use Rattle.std.specs.Option.{IfSome}
use Rattle.std.specs.Iterator.{YieldsFirstBy, Drains}
use Rattle.std.proofs.lemmas.Iterator.Consumers.{count_from_yields_List, YieldsList-from_shown}
use Rattle.lines.specs.declared.Field.{Field}
use Rattle.lines.specs.declared.Fields.{Fields}
use Rattle.lines.specs.Pieces.{fields_left, most_left, Fielded, NextNumber}

abbrev pub left : Fields → List (List ℕ)
left s = fields_left (λ x. x) s.rest

-- what `next` gives
abbrev pub steps : Fields → Option Field → Fields → Type 0
steps s r t = YieldsFirstBy (λ f. f.bytes.now) left s r t × NextNumber s.passed (λ f. f.number) r t.passed × IfSome s.rest Fielded × (t.passed + most_left (λ x. x) t.rest < 2 ^ 64)

pub fields_counted : (s : Fields) (n : ℕ) → ((xs : List Field) × Drains steps s xs × (n ≡ length xs)) → n ≡ length (left s)
fields_counted s n ran = count_from_yields_List s n ran (YieldsList-from_shown steps (λ f. f.bytes.now) left (λ t u h. ap length h.0.0) (λ t x u h. h.0) s)
