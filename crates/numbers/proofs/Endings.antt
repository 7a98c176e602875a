-- A walk ends well or with a number that its steps have; the skeleton's over a file with 1, 2 or 3. Assumes nothing.
use Prim.Native.Nat.{ℕ, ◌+◌, ◌-◌, ◌<◌}
use mathlib.Core.Path.{◌≡◌, refl, ap, ◌∙◌}
use mathlib.Core.Bool.{Bool, true, false}
use mathlib.Core.List.{List, [], ◌∷◌}
use lib.ListN.{length, take, drop}
use lib.Dec.{eqb, ltb}
use Rattle.std.specs.Prelude.{Result, Ok, Err}
use Rattle.base.specs.Choice.{pick, either}
use Rattle.base.specs.Walk.{Step, more, over, Got, follow, walk, Lower}
use Rattle.base.proofs.ChoiceLaws.{by_test}
use Rattle.base.proofs.WalkLaws.{walk_step, by_measure}
use Rattle.skeleton.specs.Leader.{number_of, leader_of}
use Rattle.skeleton.specs.Directory.{Body, lies, ended, entry_at, step_by, dir_step, fields_from, fields_of}
use Rattle.skeleton.specs.File.{Field, step_dir, step_head, file_step, records_from, records_of}
use Rattle.skeleton.specs.declared.leader.Head.{Head}
use Rattle.skeleton.specs.declared.leader.Broken.{Broken}
use Rattle.skeleton.specs.declared.leader.Broken.TheVariants.{Cut, Leader, Directory}
use Rattle.skeleton.specs.declared.directory.Entry.{Entry}
use Rattle.skeleton.specs.declared.directory.Entry.TheVariants.{Field as FieldAt, End, Bad}
use Rattle.skeleton.proofs.DirectoryLaws.{directory_falls}
use Rattle.skeleton.proofs.FileLaws.{file_falls}
use Rattle.numbers.specs.Refusals.{is_in}

-- a number that a walk may end with: 0, or one of these
unfoldable pub ends : List ℕ → ℕ → Bool
ends ns e = either (eqb e 0) (is_in e ns)

-- where it is not 0
pub not_done : (ns : List ℕ) (e : ℕ) → eqb e 0 ≡ false → ends ns e ≡ true → is_in e ns ≡ true
unfolding ends
not_done ns e n p = rw n at p

-- a step that goes on, or ends so
pub data Ends {S A : Type 0} (ns : List ℕ) : Step S A → Type 0 where
  on : {a : A} {s : S} → Ends ns (more a s)
  off : {n : ℕ} → ends ns n ≡ true → Ends ns (over n)

-- a choice of numbers
ends_pick : (ns : List ℕ) (b : Bool) (m n : ℕ) → ends ns m ≡ true → ends ns n ≡ true → ends ns (pick b m n) ≡ true
ends_pick ns true m n p q = p
ends_pick ns false m n p q = q

-- a choice of steps
pub step_pick : {S A : Type 0} {ns : List ℕ} (b : Bool) (x y : Step S A) → Ends ns x → Ends ns y → Ends ns (pick b x y)
step_pick true x y p q = p
step_pick false x y p q = q

-- a step that leads further on, and then a walk
follow_ends : {S A : Type 0} (ns : List ℕ) (μ : S → ℕ) (s : S) (x : Step S A) (k : S → Got A) → Lower μ s x → Ends ns x → ((t : S) → μ t < μ s → ends ns (k t).ending ≡ true)
    → ends ns (follow x k).ending ≡ true
follow_ends ns μ s (more a t) k low on q = q t low
follow_ends ns μ s (over n) k low (off e) q = e

-- a walk whose measure falls, so that its steps are enough
pub walk_ends : {S A : Type 0} (ns : List ℕ) (f : S → Step S A) (μ : S → ℕ) → ((s : S) → Lower μ s (f s)) → ((s : S) → Ends ns (f s)) → (s : S)
    → ends ns (walk f μ s).ending ≡ true
walk_ends {S} {A} ns f μ falls p =
    by_measure μ (λ s. ends ns (walk f μ s).ending ≡ true) (λ s so.
    ap (λ (g : Got A). ends ns g.ending) (walk_step f μ falls s) ∙ follow_ends ns μ s (f s) (walk f μ) (falls s) (p s) so)

-- the numbers of the skeleton
abbrev pub in_skeleton : List ℕ
in_skeleton = 1 ∷ 2 ∷ 3 ∷ []

-- ---- a directory

-- a step over a directory
dir_ends : (r : List ℕ) (base p at : ℕ) (e : Entry) → Ends in_skeleton (step_by r base p at e)
unfolding ends is_in
dir_ends r base p at (FieldAt tag pos len next) = step_pick (lies r base at pos len) _ _ on (off refl)
dir_ends r base p at End = off (ends_pick in_skeleton (ended r base p at) 0 3 refl refl)
dir_ends r base p at Bad = off refl

-- the walk over it
fields_end : (r : List ℕ) (base a b : ℕ) → ends in_skeleton (fields_of r base a b).ending ≡ true
unfolding fields_from
fields_end r base a b =
    walk_ends in_skeleton (dir_step r base a b) (λ s. length r - s.0) (directory_falls r base a b) (λ s. dir_ends r base s.0 s.1 (entry_at r a b s.0)) (24, 0)

-- ---- a file

-- a record that is refused
broken_ends : (x : Broken) → ends in_skeleton (number_of x) ≡ true
unfolding ends is_in
broken_ends Cut = refl
broken_ends Leader = refl
broken_ends Directory = refl

-- a record whose directory was walked
step_dir_ends : (next : ℕ) (r : List ℕ) (g : Got Body) → ends in_skeleton g.ending ≡ true → Ends in_skeleton (step_dir next r g)
step_dir_ends next r g e = step_pick (eqb g.ending 0) _ _ on (off e)

-- a record whose leader was read
step_head_ends : (at : ℕ) (rest : List ℕ) (h : Result Head Broken) → Ends in_skeleton (step_head at rest h)
step_head_ends at rest (Ok d) =
    let r = take d.len rest in
    step_dir_ends (at + d.len) r (fields_of r d.shape.base d.shape.a d.shape.b) (fields_end r d.shape.base d.shape.a d.shape.b)
step_head_ends at rest (Err x) = off (broken_ends x)

-- a step over a file
file_ends : (f : List ℕ) (at : ℕ) → Ends in_skeleton (file_step f at)
unfolding ends
file_ends f at = step_pick (ltb at (length f)) _ _ (step_head_ends at (drop at f) (leader_of (drop at f) (eqb at 0))) (off refl)

-- the records of a file
pub records_end : (f : List ℕ) → ends in_skeleton (records_of f).ending ≡ true
unfolding records_of records_from ends is_in
records_end f =
    by_test (λ (g : Got (List Field)). ends in_skeleton g.ending ≡ true) (eqb (length f) 0) _ _
    (λ _. refl)
    (λ _. walk_ends in_skeleton (file_step f) (λ q. length f - q) (file_falls f) (file_ends f) 0)
