-- What answers tell a program that is not Rattle. A name with a prime is that of a buffer afterwards.
use Rattle.std.specs.Prelude.{◌≡◌, ℕ, true, false, Bool, List, length, min, Ok, Err, Result}
use Rattle.networks.specs.Cleared.{AllZero}
use Rattle.networks.specs.Nets.{Net, most_channels}
use Rattle.networks.specs.declared.faults.StudyFault.{StudyFault}
use Rattle.checks.specs.declared.outcome.Check.{Check}
use Rattle.loads.specs.declared.LoadRecord.{LoadRecord}
use Rattle.checks.specs.declared.outcome.Verdict.{Verdict}
use Rattle.checks.specs.declared.outcome.Verdict.TheVariants.{Free, Blocked}
use Rattle.checks.specs.Checks.{Checks}
use Rattle.routes.specs.declared.outcome.Routes.{Routes}
use Rattle.routes.specs.Outcomes.{RoutesGive}
use Rattle.tracing.specs.Traces.{Traces}
use Rattle.crossings.specs.Crossing.{Standing}
use Rattle.crossings.specs.declared.Stand.{Stand}
use Rattle.bench_c.specs.declared.crossing.TraceAnswer.{TraceAnswer}
use Rattle.bench_c.specs.declared.crossing.CheckAnswer.{CheckAnswer}
use Rattle.bench_c.specs.declared.crossing.RoutesAnswer.{RoutesAnswer}

-- After a refusal every part of an answer is 0.
abbrev pub trace_refused : TraceAnswer
trace_refused = record { answered = false; ones = 0 }

abbrev pub trace_told : Result ℕ StudyFault → TraceAnswer
trace_told (Ok ones) = record { answered = true; ones = ones }
trace_told (Err f) = trace_refused

abbrev pub is_blocked : Verdict → Bool
is_blocked Free = false
is_blocked Blocked = true

abbrev pub check_refused : CheckAnswer
check_refused = record { answered = false; blocked = false; greatest = 0; held = 0 }

abbrev pub check_told : Result Check StudyFault → CheckAnswer
check_told (Ok a) = record { answered = true; blocked = is_blocked a.verdict; greatest = a.numbering.greatest; held = a.numbering.held }
check_told (Err f) = check_refused

abbrev pub routes_refused : RoutesAnswer
routes_refused = record { answered = false; arriving = false; held = 0 }

abbrev pub routes_told : Result Routes StudyFault → RoutesAnswer
routes_told (Ok a) = record { answered = true; arriving = a.arriving; held = a.held }
routes_told (Err f) = routes_refused

-- The answer is that of tracing the network into the table.
abbrev pub TraceTold : Net → List ℕ → List ℕ → TraceAnswer → List ℕ → List ℕ → Type 0
TraceTold n allowed work a allowed' work' = (r : Result ℕ StudyFault) × (a ≡ trace_told r) × Traces n allowed (length work) r allowed' × AllZero work'

-- Nothing is traced, and the buffers are as they were.
abbrev pub TraceRefused : List ℕ → List ℕ → TraceAnswer → List ℕ → List ℕ → Type 0
TraceRefused allowed work a allowed' work' = (a ≡ trace_refused) × (allowed' ≡ allowed) × (work' ≡ work)

-- After a refusal all stands are as they were.
abbrev pub Stands : ℕ → Result Check StudyFault → List LoadRecord → List Stand → List Stand → Type 0
Stands channels (Ok a) load before after = Standing channels load before after
Stands channels (Err f) load before after = after ≡ before

-- The answer is that of checking the network. The stands take the place of the load: it is as long as they are, but never longer
-- than a network can need.
abbrev pub CheckTold : Net → List ℕ → List ℕ → List Stand → List ℕ → CheckAnswer → List ℕ → List ℕ → List Stand → List ℕ → Type 0
CheckTold n allowed numbers stands work a allowed' numbers' stands' work' =
    (load load' : List LoadRecord) × (r : Result Check StudyFault)
    × (length load ≡ min (length stands) most_channels) × (a ≡ check_told r)
    × Checks n allowed numbers load (length work) r allowed' numbers' load'
    × Stands n.channels r load' stands stands' × AllZero work'

-- Nothing is checked, and the buffers are as they were.
abbrev pub CheckRefused : List ℕ → List ℕ → List Stand → List ℕ → CheckAnswer → List ℕ → List ℕ → List Stand → List ℕ → Type 0
CheckRefused allowed numbers stands work a allowed' numbers' stands' work' =
    (a ≡ check_refused) × (allowed' ≡ allowed) × (numbers' ≡ numbers) × (stands' ≡ stands) × (work' ≡ work)

-- The answer is that of the routes through the network.
abbrev pub RoutesTold : Net → List ℕ → List ℕ → List ℕ → RoutesAnswer → List ℕ → List ℕ → List ℕ → Type 0
RoutesTold n allowed numbers work a allowed' numbers' work' =
    (r : Result Routes StudyFault) × (a ≡ routes_told r) × RoutesGive n allowed numbers (length work) r allowed' numbers' × AllZero work'

-- No routes are looked for, and the buffers are as they were.
abbrev pub RoutesRefused : List ℕ → List ℕ → List ℕ → RoutesAnswer → List ℕ → List ℕ → List ℕ → Type 0
RoutesRefused allowed numbers work a allowed' numbers' work' = (a ≡ routes_refused) × (allowed' ≡ allowed) × (numbers' ≡ numbers) × (work' ≡ work)
