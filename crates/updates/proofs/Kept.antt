-- What updates keep of each record; so the result of a dataset that can be written can be written. Assumes nothing.
use Prim.Native.Nat.{ℕ, ◌+◌}
use mathlib.Core.Path.{◌≡◌, refl, sym, ap, ◌∙◌}
use mathlib.Core.Option.{Option, some, none}
use mathlib.Core.List.{List, [], ◌∷◌}
use Rattle.base.specs.Check.{ok, Passed, pass}
use Rattle.base.specs.Lists.{each, Each}
use Rattle.base.proofs.CheckLaws.{bind_inv, refused}
use Rattle.skeleton.specs.File.{Field}
use Rattle.rules.specs.Record.{Rec}
use Rattle.rules.specs.General.{number8, merged}
use Rattle.rules.specs.Written.{Dataset, written_fields, number12, written}
use Rattle.rules.specs.Outcome.{done, and_then, at, every_record}
use Rattle.rules.specs.File.{writable, Sent}
use Rattle.rules.specs.Update.{general, steps, updated}
use Rattle.rules.specs.declared.Kind.{Kind}
use Rattle.rules.proofs.OutcomeLaws.{and_then_inv, at_inv}
use Rattle.rules.proofs.Follows.{general_inv}
use Rattle.sequence.specs.Keyed.{Has, Under}
use Rattle.sequence.proofs.Result.{run_each}
use Rattle.updates.specs.Acts.{kind_in, named_by, changed_by, chart}
use Rattle.updates.specs.Accepted.{Writable}
use Rattle.updates.proofs.Acted.{Acted, acted_insert, acted_modify, acted, lawful}
use Rattle.updates.proofs.Accepted.{parted}
use Rattle.updates.proofs.Results.{ran_so}

-- ---- each record

-- what each record has (Q), and what an accepted update record that has W leaves of a record that has Q, each record of the result has
pub steps_each : (Q : Rec → Type 0) (W : List Field → Type 0)
    → ((fs : List Field) (k : Kind) (o : Option Rec) (s : Rec) → kind_in fs ≡ some k → W fs → Under chart (named_by (some k) fs) o → Has chart Q o → Acted k fs o (some s) → Q s)
    → (n : ℕ) (us : List (List Field)) (ds rs : List Rec) → Each W us → Each Q ds → steps n us ds ≡ done rs → Each Q rs
steps_each Q W makes n us ds rs w q e =
    run_each chart lawful Q W (λ fs o s v u h c. go fs (kind_in fs) refl o s v u h c) n ds us rs w q (ran_so n us ds rs e)
  where
    go : (fs : List Field) (m : Option Kind) → kind_in fs ≡ m → (o : Option Rec) (s : Rec) → W fs → Under chart (named_by m fs) o → Has chart Q o → changed_by m fs o ≡ ok (some s) → Q s
    go fs none x o s v u h c = unfold changed_by in refused c
    go fs (some k) x o s v u h c = unfold changed_by in makes fs k o s x v u h (acted k fs o (some s) c)

-- ---- a test of every record

-- it is done where each record passes
pub every_done : {R : Type 0} (test : R → Passed) (file n : ℕ) (l : List R) → Each (λ r. test r ≡ pass) l → every_record test file n l ≡ done tt
unfolding every_record Each and_then at
every_done test file n [] e = refl
every_done test file n (r ∷ l) e = rw e.0 (every_done test file (n + 1) l e.1)

-- and there alone
pub every_inv : {R : Type 0} (test : R → Passed) (file n : ℕ) (l : List R) → every_record test file n l ≡ done tt → Each (λ r. test r ≡ pass) l
unfolding every_record Each
every_inv test file n [] e = tt
every_inv test file n (r ∷ l) e =
    let (t, x, y) = and_then_inv (at file n (test r)) _ tt e in
    (at_inv file n (test r) t x, every_inv test file (n + 1) l y)

-- of what is made of each
pub each_of : {A B : Type 0} (Q : B → Type 0) (g : A → B) (l : List A) → Each Q (each g l) → Each (λ a. Q (g a)) l
unfolding Each each
each_of Q g [] e = tt
each_of Q g (x ∷ l) e = (e.0, each_of Q g l e.1)

-- and the other way round
pub of_each : {A B : Type 0} (Q : B → Type 0) (g : A → B) (l : List A) → Each (λ a. Q (g a)) l → Each Q (each g l)
unfolding Each each
of_each Q g [] e = tt
of_each Q g (x ∷ l) e = (e.0, of_each Q g l e.1)

-- any list has what all have
each_any : {A : Type 0} (l : List A) → Each (λ x. Unit {0}) l
unfolding Each
each_any [] = tt
each_any (x ∷ l) = (tt, each_any l)

-- ---- what can be written

-- an accepted update record leaves one
acted_fits : (k : Kind) (fs : List Field) (o : Option Rec) (s : Rec) → Acted k fs o (some s) → Writable s
acted_fits k fs none s (acted_insert i v w) = w
acted_fits k fs (some r) s (acted_modify i j f g a w) = w

-- the result of a dataset that can be written can be written
pub result_writable : (d : Dataset) (u : Sent) (r : Dataset) → writable d ≡ done d → updated d u ≡ done r → writable r ≡ done r
unfolding writable written general Each and_then
result_writable d u r w e =
    let p = parted d u r e in
    let (t, x, y) = and_then_inv (every_record number12 1 1 (written d)) (λ _. done d) d w in
    let a = every_inv number12 1 1 (written d) x in
    let (v, b, c) = bind_inv (number8 d.general u.general) _ r.general p.general in
    let (z, f, g) = bind_inv (number12 (merged d.general u.general)) _ r.general c in
    let m : number12 r.general ≡ pass = ap number12 (sym (general_inv d.general u.general r.general p.general).1) ∙ f in
    let s = steps_each Writable (λ fs. Unit {0}) (λ fs k o s _ _ _ _ h. acted_fits k fs o s h) 3 u.records d.records r.records (each_any u.records)
    (each_of (λ fs. number12 fs ≡ pass) written_fields d.records a.1.1.1) p.stepped in
    let q : every_record number12 1 1 (written r) ≡ done tt =
    every_done number12 1 1 (written r) (ap number12 p.descriptive ∙ a.0, (m, (ap number12 p.systems ∙ a.1.1.0, of_each (λ fs. number12 fs ≡ pass) written_fields r.records s))) in
    rw q
