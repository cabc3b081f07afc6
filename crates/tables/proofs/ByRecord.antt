-- Making a table record by record.
use Rattle.std.proofs.Common.{◌≡◌, ℕ, ◌+◌, ◌<◌, ◌≤◌, Bool, cond, ◌&&◌, ◌||◌, eqb, List, [], ◌∷◌, ◌++◌, length, sym, refl, ap, ◌∙◌, subst, ⊎_elim, arith}
use Rattle.std.proofs.ByRecursion.{All-push}
use Rattle.std.proofs.lemmas.List.{append-nil, append_assoc, length-append}
use Rattle.std.proofs.lemmas.Bool.{cases_lt, cond_both}
use Rattle.std.specs.List.{flat_map, list_any}
use Rattle.std.proofs.Math.Bool.{or-false}
use Rattle.std.proofs.lemmas.Grind.{flat_map-append}
use Rattle.std.proofs.lemmas.List.Folds.{list_any-append}
use Rattle.records.specs.declared.Record.{Record}
use Rattle.records.specs.declared.Record.TheVariants.{Entry, Home, Way}
use Rattle.records.specs.declared.Size.{Size}
use Rattle.networks.specs.declared.faults.TableFault.{TableFault}
use Rattle.networks.specs.Nets.{Net}
use Rattle.tables.specs.declared.table.Table.{Table}
use Rattle.tables.specs.Drawn.{drawn, adding, entry_by, home_by, way_by}
use Rattle.tables.specs.Makes.{SizeFits, Takes, Within, Full, Fit, Misfit, RecordsFault, first}
use Rattle.tables.specs.Meaning.{meaning_of}
use Rattle.tables.proofs.Adding.{net_ext}
use Rattle.tables.proofs.Pairs.{Same, here, elsewhere, same_pair}

-- one record more at the end
some_push : (p : Record → Bool) (rs : List Record) (r : Record) → list_any p (rs ++ (r ∷ [])) ≡ (list_any p rs || p r)
some_push p rs r = list_any-append p rs (r ∷ []) ∙ ap (λ b. list_any p rs || b) (or-false (p r))

pub drawn_push : (s : Size) (rs : List Record) (r : Record) → drawn s (rs ++ (r ∷ [])) ≡ adding (drawn s rs) r
drawn_push s rs r =
    net_ext refl refl
    (λ c d. some_push (λ q. entry_by q c d) rs r)
    (λ c d. some_push (λ q. home_by q c d) rs r)
    (λ c d. flat_map-append (λ q. way_by q c d) rs (r ∷ []) ∙ ap (λ xs. flat_map (λ q. way_by q c d) rs ++ xs) (append-nil (way_by r c d)))

few_more : (n : Net) (r : Record) → ((c d : ℕ) → length (n.ways c d) ≤ 8) → (Full n r → ⊥) → (c d : ℕ) → length (n.ways c d ++ way_by r c d) ≤ 8
few_more n (Entry a b) few room c d = rw append-nil (few c d)
few_more n (Home a b) few room c d = rw append-nil (few c d)
few_more n (Way a b h) few room c d = go (same_pair a b c d)
  where
    less : length (n.ways a b) < 8
    less = ⊎_elim (λ lt. lt) (λ le. absurd (room le)) (cases_lt (length (n.ways a b)) 8)

    go : Same a b c d → length (n.ways c d ++ cond (eqb a c && eqb b d) (h ∷ []) []) ≤ 8
    go (here e f) =
        let same : n.ways c d ≡ n.ways a b = λ i. n.ways (sym e i) (sym f i) in
        let one : length (cond (eqb a c && eqb b d) (h ∷ []) []) ≤ 1 = cond_both (eqb a c && eqb b d) (h ∷ []) [] (λ xs. length xs ≤ 1) (λ _. omega arith) (λ _. omega arith) in
        omega (arith, less, length-append (n.ways c d) (cond (eqb a c && eqb b d) (h ∷ []) []), ap length same)
    go (elsewhere other e) = rw (e, append-nil) (few c d)

pub fit_push : (s : Size) (rs : List Record) (r : Record) → Fit s rs → Takes (drawn s rs) r → Fit s (rs ++ (r ∷ []))
fit_push s rs r f t =
    record {
      within = All-push (Within (drawn s rs)) rs r f.within t.within;
      few = λ c d. subst (λ (n : Net). length (n.ways c d) ≤ 8) (sym (drawn_push s rs r)) (few_more (drawn s rs) r f.few t.room c d);
    }

-- The records so far fit and are in the table.
pub record Upto (s : Size) (rs : List Record) (t : Table) : Type 0 where
  pub size : SizeFits s
  pub fit : Fit s rs
  pub meaning : meaning_of t ≡ drawn s rs

pub fit_none : (s : Size) → Fit s []
fit_none s = record { within = tt; few = λ c d. omega arith }

pub goes_on : (s : Size) (rs : List Record) (r : Record) (t u : Table) → Upto s rs t → Takes (meaning_of t) r → meaning_of u ≡ adding (meaning_of t) r → Upto s (rs ++ (r ∷ [])) u
goes_on s rs r t u up takes e =
    let m = up.meaning in
    record {
      size = up.size;
      fit = fit_push s rs r up.fit (subst (λ (n : Net). Takes n r) m takes);
      meaning = e ∙ ap (λ n. adding n r) m ∙ sym (drawn_push s rs r);
    }

-- The records before the rest are in the table. The next one, if there is one, stands on the line.
pub record Midway (s : Size) (rs rest : List Record) (line : ℕ) (t : Table) : Type 0 where
  pub done : List Record
  pub all : rs ≡ done ++ rest
  pub line_is : line ≡ length done + 2
  pub upto : Upto s done t

module _ {s : Size} {rs rest : List Record} {line : ℕ} {t : Table} (m : Midway s rs rest line t) where
  pub one_more : {r : Record} {rest' : List Record} {line' : ℕ} {u : Table} → rest ≡ r ∷ rest' → line' ≡ line + 1 → Takes (meaning_of t) r × (meaning_of u ≡ adding (meaning_of t) r) → Midway s rs rest' line' u
  one_more {r} {rest'} {line'} {u} e l (takes, is) =
      record {
        done = m.done ++ (r ∷ []);
        all = m.all ∙ ap (λ xs. m.done ++ xs) e ∙ sym (append_assoc m.done (r ∷ []) rest');
        line_is = omega (arith, m.line_is, length-append m.done (r ∷ []));
        upto = goes_on s m.done r t u m.upto takes is;
      }

  pub one_refused : {r : Record} {rest' : List Record} {line' : ℕ} {f : TableFault} → rest ≡ r ∷ rest' → line' ≡ line → Misfit (meaning_of t) line' r f → RecordsFault s rs f
  one_refused {r} {rest'} {line'} {f} e l x = first m.done rest' r m.upto.size (m.all ∙ ap (λ xs. m.done ++ xs) e) m.upto.fit (subst (λ (n : Net). Misfit n (length m.done + 2) r f) m.upto.meaning (subst (λ (k : ℕ). Misfit (meaning_of t) k r f) (l ∙ m.line_is) x))
