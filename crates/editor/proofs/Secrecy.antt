-- The entry does not show what the work area held.
use Rattle.std.proofs.Common.{ℕ, List, length, sym, ◌∙◌, subst}
use Rattle.std.proofs.lemmas.List.{ext_get_or}
use Rattle.networks.specs.Secrecy.{Secret}
use Rattle.networks.proofs.Secrecy.{cleared_same}
use Rattle.editor.specs.Entry.{Buffers, Gives, Leaves}
use Rattle.editor.proofs.Alike.{enters}

pub entry_secret : (file : List ℕ) (before : Buffers) → Secret (Leaves file before)
entry_secret file before held other x y e p q =
    let gives : Gives file before (length held) y.number y.buffers = subst (λ (k : ℕ). Gives file before k y.number y.buffers) (sym e) q.gives in
    let same = (enters file before (length held) x.number x.buffers p.gives).only y.number y.buffers gives in
    let allowed = ext_get_or 0 y.buffers.allowed x.buffers.allowed (q.bytes ∙ sym p.bytes) (λ k l. same.1.allowed k) in
    let numbers = ext_get_or 0 y.buffers.numbers x.buffers.numbers (q.each ∙ sym p.each) (λ k l. same.1.numbers k) in
    let places = ext_get_or 0 y.buffers.places x.buffers.places (q.places ∙ sym p.places) (λ k l. same.1.places k) in
    let fault = ext_get_or 0 y.buffers.fault x.buffers.fault (q.fault ∙ sym p.fault) (λ k l. same.1.fault k) in
    let work = cleared_same y.work x.work (q.words ∙ sym e ∙ sym p.words) q.cleared p.cleared in
    sym (λ i. record { number = same.0 i; buffers = record { allowed = allowed i; numbers = numbers i; places = places i; fault = fault i }; work = work i })
