-- The records of the result: each comes from an accepted history, and is sound. Assumes nothing.
use Prim.Native.Nat.{ℕ}
use mathlib.Core.Path.{◌≡◌, refl, sym, ap, ◌∙◌}
use mathlib.Core.Bool.{true, false, true≢false}
use mathlib.Core.Option.{Option, some, none}
use mathlib.Core.List.{List, [], ◌∷◌, ◌++◌}
use Rattle.base.specs.Check.{ok, bind}
use Rattle.base.specs.Keys.{same}
use Rattle.base.specs.Lists.{Each}
use Rattle.base.proofs.CheckLaws.{bind_inv, ok_inj, refused}
use Rattle.base.proofs.KeysLaws.{same_sound, same_refl}
use Rattle.skeleton.specs.File.{Field}
use Rattle.rules.specs.Record.{Rec}
use Rattle.rules.specs.declared.Kind.{Kind}
use Rattle.sequence.specs.Keyed.{Act, insert, delete, modify, Parts, done, Has, Under, Goes, brings, takes, alters, find, Once, Laws}
use Rattle.sequence.specs.History.{history, version, judged}
use Rattle.sequence.specs.Order.{is_insert, deleted}
use Rattle.sequence.specs.Stream.{stands}
use Rattle.sequence.proofs.Tests.{by_bool}
use Rattle.sequence.proofs.Lists.{find_under}
use Rattle.sequence.proofs.Local.{history_append, history_under}
use Rattle.updates.specs.Acts.{kind_in, named_by, changed_by, chart}
use Rattle.updates.proofs.Acted.{acted, lawful}
use Rattle.sound.specs.Sound.{SoundRec}
use Rattle.sound.proofs.Changed.{Sendable, changed_sound}
use Rattle.composing.proofs.FateLaws.{fate_kept, history_fate, version_ok}

module _ (P : Parts) where
  open P use {Rec, Upd, key, act, names, change}

  -- a record stands
  some_of : (o : Option Rec) → stands (ok o) ≡ true → (s : Rec) × (o ≡ some s)
  unfolding stands
  some_of none e = absurd (true≢false (sym e))
  some_of (some s) e = (s, refl)

  -- an accepted insert found nothing and left a record
  goes_insert : (k : List ℕ) (a : Act) (o p : Option Rec) → Goes P k a o p → is_insert a ≡ true → (o ≡ none) × (stands (ok p) ≡ true)
  unfolding is_insert stands
  goes_insert k insert none (some s) (brings z) e = (refl, refl)
  goes_insert k delete (some r) none takes e = absurd (true≢false (sym e))
  goes_insert k modify (some r) (some s) (alters z) e = absurd (true≢false (sym e))
  goes_insert k insert none none x6 e = elim x6 [ ]
  goes_insert k insert (some r) p x5 e = elim x5 [ ]
  goes_insert k delete none p x5 e = elim x5 [ ]
  goes_insert k delete (some r) (some s) x8 e = elim x8 [ ]
  goes_insert k modify none p x6 e = elim x6 [ ]
  goes_insert k modify (some r) none x9 e = elim x9 [ ]

module _ (P : Parts) (L : Laws P) where
  open P use {Rec, Upd, key, act, names, change}

  -- an update record that names the key, and those after it
  history_first : (k : List ℕ) (u : Upd) (us : List Upd) (o : Option Rec) → same (names u) k ≡ true → history P k (u ∷ us) o ≡ bind (change u o) (λ q. history P k us q)
  unfolding history
  history_first k u us o h = rw h

  -- a history that is accepted, from a record on, none of whose update records deletes it, ends with a record
  pub history_stays : (k : List ℕ) (us : List Upd) (r : Rec) (o : Option Rec) → key r ≡ k → deleted P k us ≡ false → history P k us (some r) ≡ ok o → (s : Rec) × (o ≡ some s)
  unfolding stands
  history_stays k us r o z d e = some_of P o (history_fate P L k us (some r) o z e ∙ fate_kept P k us d)

  module _ (j : ℕ) (ds : List Rec) (us : List Upd) (v : Once P ds) (fine : judged P j ds [] us ≡ done tt) where
    -- an old record that is not deleted
    pub kept_some : (r : Rec) → find P (key r) ds ≡ some r → deleted P (key r) us ≡ false → (s : Rec) × (history P (key r) us (some r) ≡ ok (some s))
    unfolding version
    kept_some r f d =
        let (o, e) = version_ok P L j ds us v fine (key r) in
        let x : history P (key r) us (some r) ≡ ok o = ap (history P (key r) us) (sym f) ∙ e in
        let (s, y) = history_stays (key r) us r o refl d x in
        (s, x ∙ ap ok y)

    -- an inserted record that is not deleted later
    pub joined_some : (pre : List Upd) (u : Upd) (post : List Upd) → us ≡ pre ++ (u ∷ post) → is_insert (act u) ≡ true → deleted P (names u) post ≡ false
        → (s : Rec) × (history P (names u) (u ∷ post) none ≡ ok (some s))
    unfolding version
    joined_some pre u post split a d =
        let k = names u in
        let (o, e) = version_ok P L j ds us v fine k in
        let x : history P k (pre ++ (u ∷ post)) (find P k ds) ≡ ok o = ap (λ (l : List Upd). history P k l (find P k ds)) (sym split) ∙ e in
        let (p, y, z) = bind_inv (history P k pre (find P k ds)) (λ p. history P k (u ∷ post) p) o (sym (history_append P L k pre (u ∷ post) (find P k ds)) ∙ x) in
        let (q, b, c) = bind_inv (change u p) (λ q. history P k post q) o (sym (history_first k u post p (same_refl k)) ∙ z) in
        let g = L.goes u p q (history_under P L k pre (find P k ds) p (find_under P k ds) y) b in
        let (n, t) = goes_insert P k (act u) p q g a in
        let (r, w) = some_of P q t in
        let i : Under P k (some r) = rw w at (after k (act u) p q g) in
        let h : history P k post (some r) ≡ ok o = ap (history P k post) (sym w) ∙ c in
        let (s, m) = history_stays k post r o i d h in
        let whole : history P k (u ∷ post) none ≡ ok o = ap (history P k (u ∷ post)) (sym n) ∙ z in
        (s, whole ∙ ap ok m)
      where
        after : (k : List ℕ) (a : Act) (o p : Option Rec) → Goes P k a o p → Under P k p
        after k insert none (some s) (brings z) = z
        after k delete (some r) none takes = tt
        after k modify (some r) (some s) (alters z) = z
        after k insert none none x3 = elim x3 [ ]
        after k insert (some r) p x3 = elim x3 [ ]
        after k delete none p x3 = elim x3 [ ]
        after k delete (some r) (some s) x5 = elim x5 [ ]
        after k modify none p x4 = elim x4 [ ]
        after k modify (some r) none x6 = elim x6 [ ]

  -- what each record has (Q), and what an accepted update record that has W leaves of a record that has Q, the record at the end of a history has
  pub history_has : (Q : Rec → Type 0) (W : Upd → Type 0) → ((u : Upd) (o : Option Rec) (s : Rec) → W u → Under P (names u) o → Has P Q o → change u o ≡ ok (some s) → Q s)
      → (k : List ℕ) (us : List Upd) (o p : Option Rec) → Each W us → Under P k o → Has P Q o → history P k us o ≡ ok p → Has P Q p
  unfolding history Each
  history_has Q W makes k [] o p w i h e = rw (← ok_inj o p e) h
  history_has Q W makes k (u ∷ us) o p w i h e =
      by_bool (same (names u) k)
      (λ y. let n = same_sound (names u) k y in
      let (q, x, z) = bind_inv (change u o) (λ q. history P k us q) p (rw y at e) in
      history_has Q W makes k us q p w.1 (after (act u) o q (rw n at (L.goes u o q (rw n i) x))) (one q x (rw n i)) z)
      (λ y. history_has Q W makes k us o p w.1 i h (rw y at e))
    where
      after : (a : Act) (o q : Option Rec) → Goes P k a o q → Under P k q
      after insert none (some s) (brings z) = z
      after delete (some r) none takes = tt
      after modify (some r) (some s) (alters z) = z
      after insert none none x7 = elim x7 [ ]
      after insert (some r) q x7 = elim x7 [ ]
      after delete none q x7 = elim x7 [ ]
      after delete (some r) (some s) x9 = elim x9 [ ]
      after modify none q x8 = elim x8 [ ]
      after modify (some r) none x10 = elim x10 [ ]

      one : (q : Option Rec) → change u o ≡ ok q → Under P (names u) o → Has P Q q
      one none x j = tt
      one (some s) x j = makes u o s w.0 j h x

-- ---- of the rules

-- what an update record that can be sent leaves of a sound record is sound
change_sound : (fs : List Field) (o : Option Rec) (s : Rec) → Sendable fs → Under chart (chart.names fs) o → Has chart SoundRec o → chart.change fs o ≡ ok (some s) → SoundRec s
change_sound fs o s w u h e = go (kind_in fs) refl u e
  where
    go : (m : Option Kind) → kind_in fs ≡ m → Under chart (named_by m fs) o → changed_by m fs o ≡ ok (some s) → SoundRec s
    go none x i y = unfold changed_by in refused y
    go (some k) x i y = changed_sound fs k o s x w i h (acted k fs o (some s) (unfold changed_by in y))

-- the record at the end of a history is sound
pub history_sound : (k : List ℕ) (us : List (List Field)) (o p : Option Rec) → Each Sendable us → Under chart k o → Has chart SoundRec o → history chart k us o ≡ ok p → Has chart SoundRec p
history_sound = history_has chart lawful SoundRec Sendable change_sound
