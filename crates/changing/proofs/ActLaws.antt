-- Insert, delete and modify. Assumes nothing.
use Prim.Native.Nat.{ℕ, ◌+◌, ◌≤◌, ◌<◌}
use mathlib.Core.Path.{◌≡◌, refl, sym, ap, ◌∙◌, subst}
use mathlib.Core.Bool.{Bool, true, false, true≢false}
use mathlib.Core.Option.{Option, some, none}
use mathlib.Core.List.{List}
use borrow.Author.Tests.{eq-eqb, ne_eqb, lt-ltb, le-ltb}
use lib.Dec.{eqb}
use lib.ListN.{length}
use Rattle.std.specs.Prelude.{Option as StdOption, Some, None, is_some, Result, Ok, Err}
use Rattle.base.specs.Choice.{pick, both}
use Rattle.base.specs.Check.{Check, no, bind, fault, pass}
use Rattle.base.specs.declared.Fault.{Fault}
use Rattle.base.specs.Lists.{gather}
use Rattle.skeleton.specs.File.{Field}
use Rattle.rules.specs.ByTag.{front}
use Rattle.rules.specs.Record.{Rec, ident_of, key_named, rec_of, foid_of}
use Rattle.rules.specs.Written.{written_fields, written_length, number12}
use Rattle.rules.specs.Change.{follows, same_foid, fitting, inserted, deleted, modified, change}
use Rattle.rules.specs.declared.Kind.{Kind}
use Rattle.sequence.specs.Keyed.{Under}
use Rattle.updates.specs.Acts.{chart}
use Rattle.items.specs.Items.{source}
use Rattle.version.specs.Held.{Held, foid_bodies}
use Rattle.version.specs.Present.{HeldAs, ChangedTo, FlagsKept}
use Rattle.version.specs.declared.Version.{Version}
use Rattle.changing.specs.Given.{Says, reworked}
use Rattle.changing.specs.Foids.{foid_test, same_from}
use Rattle.changing.specs.declared.identity.Said.{Said}
use Rattle.changing.proofs.SameLaws.{same_rule}

-- a workspace that was lent keeps its length
pub still_wide : (w o : List ℕ) → length o ≡ length w → 400000 ≤ length w → 400000 ≤ length o
still_wide w o e l = subst (λ (n : ℕ). 400000 ≤ n) (sym e) l

-- ---- `fits`

short_twelve : (fs : List Field) → written_length fs ≤ 99999 → number12 fs ≡ pass
unfolding number12
short_twelve fs y = rw (le-ltb 99999 (written_length fs) y) refl

module _ (d u w : List ℕ) (v : Version) (n : ℕ) (is : (r : Rec) → Held d u w v r → n ≡ written_length (written_fields r)) where
  pub too_long : 99999 < n → (r : Rec) → Held d u w v r → ChangedTo d u w (fitting r) (Err (fault 12 0 0))
  unfolding ChangedTo fitting number12 bind
  too_long x r h = let y : 99999 < written_length (written_fields r) = subst (λ (m : ℕ). 99999 < m) (is r h) x in rw (lt-ltb 99999 (written_length (written_fields r)) y) refl

  pub long_fits : n ≤ 99999 → (r : Rec) → Held d u w v r → ChangedTo d u w (fitting r) (Ok (Some v))
  unfolding ChangedTo HeldAs fitting bind
  long_fits x r h =
      let twelve = short_twelve (written_fields r) (subst (λ (m : ℕ). m ≤ 99999) (is r h) x) in
      (some r, rw twelve refl, (r, refl, h, twelve))

-- ---- what stands there

pub some_there : (p : StdOption Version) → is_some p ≡ true → (v : Version) × (p ≡ Some v)
some_there (Some v) e = (v, refl)
some_there None e = absurd (true≢false (sym e))

pub none_there : (p : StdOption Version) → is_some p ≡ false → p ≡ None
none_there (Some v) e = absurd (true≢false e)
none_there None e = refl

module _ (d u w : List ℕ) (p : StdOption Version) (o : Option Rec) where
  pub record Stands (v : Version) : Type 0 where
    pub old : Rec
    pub is : o ≡ some old
    pub held : Held d u w v old
    pub twelve : number12 (written_fields old) ≡ pass

  pub here_stands : (v : Version) → p ≡ Some v → HeldAs d u w p o → Stands v
  unfolding HeldAs
  here_stands v e x =
      let (r, a, b, c) : HeldAs d u w (Some v) o = subst (λ (q : StdOption Version). HeldAs d u w q o) e x in
      record { old = r; is = a; held = b; twelve = c }

  pub absent_none : p ≡ None → HeldAs d u w p o → o ≡ none
  unfolding HeldAs
  absent_none e x = subst (λ (q : StdOption Version). HeldAs d u w q o) e x

-- ---- `insert`

-- the update is what 1 names
pub source_new : (d u : List ℕ) → source 1 d u ≡ u
unfolding source
source_new d u = refl

module _ (k : Kind) (fs : List Field) (s : Said) (x : Says k fs s) (d u w : List ℕ) (p : StdOption Version) where
  pub insert_present : (v : Version) → p ≡ Some v → ((o : Option Rec) → HeldAs d u w p o → ChangedTo d u w (inserted k fs o) (Err (fault 7 1 0))) × FlagsKept w w
  unfolding ChangedTo inserted
  insert_present v e = (λ o a. let t = here_stands d u w p o v e a in rw t.is refl, refl)

  pub insert_late : p ≡ None → (s.rver ≡ 1 → ⊥) → ((o : Option Rec) → HeldAs d u w p o → ChangedTo d u w (inserted k fs o) (Err (fault 10 1 0))) × FlagsKept w w
  unfolding ChangedTo inserted
  insert_late e n = (λ o a. rw (absent_none d u w p o e a, ← x.rver, ne_eqb s.rver 1 n) refl, refl)

  pub insert_made : p ≡ None → s.rver ≡ 1 → (w' : List ℕ) (c : Result (StdOption Version) Fault) → ChangedTo d u w' (fitting (rec_of k fs)) c → FlagsKept w w'
      → ((o : Option Rec) → HeldAs d u w p o → ChangedTo d u w' (inserted k fs o) c) × FlagsKept w w'
  unfolding inserted
  insert_made e n w' c y f = (λ o a. rw (absent_none d u w p o e a, ← x.rver, n) y, f)

-- ---- `follows`

module _ (a b : ℕ) (t : Bool) where
  pub both_first : a ≡ b → t ≡ both (eqb a b) t
  both_first e = rw (eq-eqb a b e) refl

  pub first_not : (a ≡ b → ⊥) → eqb a b ≡ both (eqb a b) t
  first_not n = rw (ne_eqb a b n) refl

-- ---- RVER and code

module _ (k : Kind) (fs : List Field) (s : Said) (x : Says k fs s) (d u w : List ℕ) (v : Version) (old : Rec) (h : Held d u w v old) where
  follows_as_lem : follows (ident_of k (front fs)) old ≡ pick (both (eqb s.rver (v.rver + 1)) (eqb s.code v.code)) pass (no (fault 10 1 0))
  unfolding follows
  follows_as_lem = rw (x.rver, x.code, h.rver, h.code) refl

  module _ (t : Bool) (is : t ≡ both (eqb s.rver (v.rver + 1)) (eqb s.code v.code)) where
    follows_pass : t ≡ true → follows (ident_of k (front fs)) old ≡ pass
    follows_pass y = follows_as_lem ∙ rw (← is, y) refl

    follows_not : t ≡ false → follows (ident_of k (front fs)) old ≡ no (fault 10 1 0)
    follows_not y = follows_as_lem ∙ rw (← is, y) refl

-- ---- `delete`

module _ (s : Said) (p : StdOption Version) (k : Kind) (fs : List Field) (d u w : List ℕ) (o : Option Rec) (x : Says k fs s) (a : HeldAs d u w p o) where
  pub delete_absent : p ≡ None → ChangedTo d u w (deleted k fs o) (Err (fault 9 1 0))
  unfolding ChangedTo deleted
  delete_absent e = rw (absent_none d u w p o e a) refl

  module _ (v : Version) (e : p ≡ Some v) (t : Bool) (is : t ≡ both (eqb s.rver (v.rver + 1)) (eqb s.code v.code)) where
    pub delete_made : t ≡ true → ChangedTo d u w (deleted k fs o) (Ok None)
    unfolding ChangedTo HeldAs deleted bind
    delete_made y =
        let z = here_stands d u w p o v e a in
        (none, rw (z.is, follows_pass k fs s x d u w v z.old z.held t is y) refl, refl)

    pub delete_not : t ≡ false → ChangedTo d u w (deleted k fs o) (Err (fault 10 1 0))
    unfolding ChangedTo deleted bind
    delete_not y =
        let z = here_stands d u w p o v e a in
        rw (z.is, follows_not k fs s x d u w v z.old z.held t is y) refl

-- ---- `modify`

module _ (k : Kind) (fs : List Field) (s : Said) (x : Says k fs s) (d u w : List ℕ) (p : StdOption Version) where
  pub modify_absent : p ≡ None → ((o : Option Rec) → HeldAs d u w p o → ChangedTo d u w (modified k fs o) (Err (fault 9 1 0))) × FlagsKept w w
  unfolding ChangedTo modified
  modify_absent e = (λ o a. rw (absent_none d u w p o e a) refl, refl)

  module _ (v : Version) (e : p ≡ Some v) (t : Bool) (is : t ≡ both (eqb s.rver (v.rver + 1)) (eqb s.code v.code)) where
    pub modify_not : t ≡ false → ((o : Option Rec) → HeldAs d u w p o → ChangedTo d u w (modified k fs o) (Err (fault 10 1 0))) × FlagsKept w w
    unfolding ChangedTo modified bind
    modify_not y = (
      λ o a. let z = here_stands d u w p o v e a in rw (z.is, follows_not k fs s x d u w v z.old z.held t is y) refl,
      refl,
    )

    module _ (y : t ≡ true) (f : StdOption ℕ) (ef : foid_test f ≡ same_from (gather foid_of (foid_bodies d u v)) 1 fs) where
      foid_tested : (o : Option Rec) (z : Stands d u w p o v) → same_foid 1 fs z.old ≡ foid_test f
      foid_tested o z = same_rule 1 fs z.old ∙ ap (λ (b : List ℕ). same_from b 1 fs) z.held.foid ∙ sym ef

      pub modify_other : (i : ℕ) → f ≡ Some i → ((o : Option Rec) → HeldAs d u w p o → ChangedTo d u w (modified k fs o) (Err (fault 10 i 0))) × FlagsKept w w
      unfolding ChangedTo modified bind foid_test
      modify_other i g = (
        λ o a. let z = here_stands d u w p o v e a in
            rw (z.is, follows_pass k fs s x d u w v z.old z.held t is y, foid_tested o z, g) refl,
        refl,
      )

      pub modify_made : f ≡ None → (w' : List ℕ) (c : Result (StdOption Version) Fault) → ((r : Rec) → Held d u w v r → ChangedTo d u w' (reworked s.rver fs r) c) × FlagsKept w w'
          → ((o : Option Rec) → HeldAs d u w p o → ChangedTo d u w' (modified k fs o) c) × FlagsKept w w'
      unfolding modified reworked bind foid_test
      modify_made g w' c made = (
        λ o a. let z = here_stands d u w p o v e a in
            rw (z.is, follows_pass k fs s x d u w v z.old z.held t is y, foid_tested o z, g, ← x.rver) (made.0 z.old z.held),
        made.1,
      )

-- ---- `change`

module _ (k : Kind) (fs : List Field) (s : Said) (x : Says k fs s) (d u w o : List ℕ) (p : StdOption Version) (c : Result (StdOption Version) Fault) where
  -- what an update record makes of what stands under its key, where it is what `act` makes of it
  changed_by_lem : (act : Option Rec → Check (Option Rec)) → ((r : Option Rec) → change k fs r ≡ act r)
      → ((r : Option Rec) → HeldAs d u w p r → ChangedTo d u o (act r) c) × FlagsKept w o
      → ((r : Option Rec) → HeldAs d u w p r → Under chart (key_named k fs) r → ChangedTo d u o (change k fs r) c) × FlagsKept w o
  changed_by_lem act e y = (λ r a n. subst (λ (t : Check (Option Rec)). ChangedTo d u o t c) (sym (e r)) (y.0 r a), y.1)

  pub change_insert : s.ruin ≡ 1 → ((r : Option Rec) → HeldAs d u w p r → ChangedTo d u o (inserted k fs r) c) × FlagsKept w o
      → ((r : Option Rec) → HeldAs d u w p r → Under chart (key_named k fs) r → ChangedTo d u o (change k fs r) c) × FlagsKept w o
  change_insert z y = changed_by_lem (inserted k fs) (λ r. unfold change in rw (← x.ruin, z) refl) y

  pub change_delete : s.ruin ≡ 2 → ((r : Option Rec) → HeldAs d u w p r → ChangedTo d u o (deleted k fs r) c) × FlagsKept w o
      → ((r : Option Rec) → HeldAs d u w p r → Under chart (key_named k fs) r → ChangedTo d u o (change k fs r) c) × FlagsKept w o
  change_delete z y = changed_by_lem (deleted k fs) (λ r. unfold change in rw (← x.ruin, z) refl) y

  pub change_modify : (s.ruin ≡ 1 → ⊥) → (s.ruin ≡ 2 → ⊥) → ((r : Option Rec) → HeldAs d u w p r → ChangedTo d u o (modified k fs r) c) × FlagsKept w o
      → ((r : Option Rec) → HeldAs d u w p r → Under chart (key_named k fs) r → ChangedTo d u o (change k fs r) c) × FlagsKept w o
  change_modify a b y =
      changed_by_lem (modified k fs) (λ r. unfold change in rw (← x.ruin, ne_eqb s.ruin 1 a, ne_eqb s.ruin 2 b) refl) y
