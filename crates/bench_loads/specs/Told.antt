-- What answers about loads tell a program that is not Rattle. A name with a prime is that of a buffer afterwards.
use Rattle.std.specs.Prelude.{◌≡◌, ℕ, ◌<◌, true, false, List, length, map, min, count_by, Some, Ok, Err, Result, slice_get}
use Rattle.networks.specs.Cleared.{AllZero}
use Rattle.networks.specs.Nets.{Net, most_channels}
use Rattle.networks.specs.declared.faults.StudyFault.{StudyFault}
use Rattle.networks.specs.declared.pairs.Pair.{Pair}
use Rattle.loads.specs.Runs.{Put, Step, Run, accepted}
use Rattle.loads.specs.declared.LoadRecord.{LoadRecord}
use Rattle.drains.specs.Drains.{Drains}
use Rattle.drains.specs.Faults.{drain_parts}
use Rattle.drains.specs.declared.faults.DrainFault.{DrainFault}
use Rattle.judges.specs.Judges.{JudgesNumbers, JudgesLoad}
use Rattle.judges.specs.declared.LoadJudged.{LoadJudged}
use Rattle.judges.specs.declared.LoadJudged.TheVariants as load_judged
use Rattle.judges.specs.declared.NumbersJudged.{NumbersJudged}
use Rattle.judges.specs.declared.NumbersJudged.TheVariants as numbers_judged
use Rattle.crossings.specs.Crossing.{record_of, Standing}
use Rattle.crossings.specs.declared.PairWords.{PairWords}
use Rattle.crossings.specs.declared.Stand.{Stand}
use Rattle.bench_loads.specs.declared.answers.DrainAnswer.{DrainAnswer}
use Rattle.bench_loads.specs.declared.answers.JudgeAnswer.{JudgeAnswer}
use Rattle.bench_loads.specs.declared.answers.PutsAnswer.{PutsAnswer}

-- If there is no network every part of an answer is 0.
abbrev pub no_drain : DrainAnswer
no_drain = record { answered = false; refused = 0; calls = 0 }

abbrev pub drain_told : Result ℕ DrainFault → DrainAnswer
drain_told (Ok calls) = record { answered = true; refused = 0; calls = calls }
drain_told (Err f) = record { answered = true; refused = (drain_parts f).number; calls = 0 }

abbrev pub no_judgement : JudgeAnswer
no_judgement = record { answered = false; holds = false; offends = false; channel = 0; place = 0 }

abbrev pub holds : JudgeAnswer
holds = record { answered = true; holds = true; offends = false; channel = 0; place = 0 }

abbrev pub offends : Pair → JudgeAnswer
offends p = record { answered = true; holds = false; offends = true; channel = p.channel; place = p.place }

abbrev pub numbers_told : Result NumbersJudged StudyFault → JudgeAnswer
numbers_told (Ok numbers_judged.Sound) = holds
numbers_told (Ok (numbers_judged.Offends p)) = offends p
numbers_told (Err f) = no_judgement

abbrev pub load_told : Result LoadJudged StudyFault → JudgeAnswer
load_told (Ok load_judged.Blocked) = holds
load_told (Ok (load_judged.Offends p)) = offends p
load_told (Ok load_judged.NoPacket) = record { answered = true; holds = false; offends = false; channel = 0; place = 0 }
load_told (Err f) = no_judgement

abbrev pub no_puts : PutsAnswer
no_puts = record { answered = false; accepted = 0 }

-- The load is as long as the stands, but never longer than a network can need, and has what they tell.
pub record Stood (stands : List Stand) (load : List LoadRecord) : Type 0 where
  pub long : length load ≡ min (length stands) most_channels
  pub told : (k : ℕ) (s : Stand) → k < length load → slice_get stands k ≡ Some s → slice_get load k ≡ Some (record_of s)

-- The stands of the channels tell what the load has, as far as the two go. The others are as they were.
abbrev pub LoadTold : Net → List LoadRecord → List Stand → List Stand → Type 0
LoadTold n load stands stands' = Standing (min n.channels (min (length load) (length stands))) load stands stands'

-- The answer is that of draining the load that the stands tell, and they tell what is left of it.
abbrev pub DrainTold : Net → List ℕ → List ℕ → List Stand → List ℕ → DrainAnswer → List ℕ → List ℕ → List Stand → List ℕ → Type 0
DrainTold n allowed numbers stands work a allowed' numbers' stands' work' =
    (load load' : List LoadRecord) × (r : Result ℕ DrainFault) × Stood stands load × (a ≡ drain_told r)
    × Drains n allowed numbers load (length work) r allowed' numbers' load' × LoadTold n load' stands stands' × AllZero work'

-- Nothing is drained, and the buffers are as they were.
abbrev pub DrainRefused : List ℕ → List ℕ → List Stand → List ℕ → DrainAnswer → List ℕ → List ℕ → List Stand → List ℕ → Type 0
DrainRefused allowed numbers stands work a allowed' numbers' stands' work' =
    (a ≡ no_drain) × (allowed' ≡ allowed) × (numbers' ≡ numbers) × (stands' ≡ stands) × (work' ≡ work)

-- The answer is that of judging the numbers.
abbrev pub NumbersTold : Net → List ℕ → List ℕ → List ℕ → JudgeAnswer → List ℕ → List ℕ → Type 0
NumbersTold n allowed numbers work a allowed' work' =
    (r : Result NumbersJudged StudyFault) × (a ≡ numbers_told r) × JudgesNumbers n allowed numbers (length work) r allowed' × AllZero work'

-- The answer is that of judging the load that the stands tell.
abbrev pub LoadJudgeTold : Net → List ℕ → List Stand → List ℕ → JudgeAnswer → List ℕ → List ℕ → Type 0
LoadJudgeTold n allowed stands work a allowed' work' =
    (load : List LoadRecord) × (r : Result LoadJudged StudyFault) × Stood stands load × (a ≡ load_told r)
    × JudgesLoad n allowed load (length work) r allowed' × AllZero work'

-- Nothing is judged, and the buffers are as they were.
abbrev pub JudgeRefused : List ℕ → List ℕ → JudgeAnswer → List ℕ → List ℕ → Type 0
JudgeRefused allowed work a allowed' work' = (a ≡ no_judgement) × (allowed' ≡ allowed) × (work' ≡ work)

-- The run that puts a packet for each pair, one after the other, leads from one load to the other, and so many puts are accepted.
pub record PutEach (n : Net) (pairs : List PairWords) (load load' : List LoadRecord) (count : ℕ) : Type 0 where
  pub steps : List Step
  pub made : map (λ (s : Step). s.call) steps ≡ map (λ p. Put p.channel p.place) pairs
  pub run : Run n load steps load'
  pub count_is : count ≡ count_by (λ (s : Step). accepted s.call s.answer) steps

-- The answer is that of putting a packet for each pair into the load that the stands tell, and they tell the load that there is then.
abbrev pub PutsTold : Net → List PairWords → List Stand → PutsAnswer → List Stand → Type 0
PutsTold n pairs stands a stands' =
    (load load' : List LoadRecord) × Stood stands load × (a.answered ≡ true) × PutEach n pairs load load' a.accepted × LoadTold n load' stands stands'

-- Nothing is put, and the stands are as they were.
abbrev pub PutsRefused : List Stand → PutsAnswer → List Stand → Type 0
PutsRefused stands a stands' = (a ≡ no_puts) × (stands' ≡ stands)
