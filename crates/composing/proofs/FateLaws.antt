-- What stands under a key after an accepted update, by the acts of the update records that name it. Assumes nothing.
use Prim.Native.Nat.{ℕ}
use mathlib.Core.Path.{◌≡◌, refl, sym, ap, ◌∙◌}
use mathlib.Core.Bool.{Bool, true, false, not, true≢false}
use mathlib.Core.Option.{Option, some, none}
use mathlib.Core.List.{List, [], ◌∷◌}
use Rattle.base.specs.Choice.{both}
use Rattle.base.specs.Check.{ok}
use Rattle.base.specs.Keys.{same}
use Rattle.base.proofs.CheckLaws.{bind_inv, ok_inj}
use Rattle.base.proofs.KeysLaws.{same_sound}
use Rattle.base.proofs.ChoiceLaws.{neither}
use Rattle.sequence.specs.Keyed.{Act, insert, delete, modify, Parts, done, Under, Goes, brings, takes, alters, find, run, Once, Laws}
use Rattle.sequence.specs.History.{history, version, judged}
use Rattle.sequence.specs.Order.{is_delete, named, deleted}
use Rattle.sequence.specs.Stream.{stands, standing}
use Rattle.sequence.proofs.Tests.{by_bool}
use Rattle.sequence.proofs.Lists.{find_under}
use Rattle.sequence.proofs.Local.{run_judged, run_version}
use Rattle.sequence.proofs.Refusal.{verdict_done}
use Rattle.composing.specs.Fate.{fate}

module _ (P : Parts) where
  open P use {Rec, Upd, key, act, names, change}

  -- what an accepted act leaves
  goes_stands : (k : List ℕ) (a : Act) (o p : Option Rec) → Goes P k a o p → stands (ok p) ≡ not (is_delete a)
  unfolding stands is_delete
  goes_stands k insert none (some s) (brings z) = refl
  goes_stands k delete (some r) none takes = refl
  goes_stands k modify (some r) (some s) (alters z) = refl
  goes_stands k insert none none x3 = elim x3 [ ]
  goes_stands k insert (some r) p x3 = elim x3 [ ]
  goes_stands k delete none p x3 = elim x3 [ ]
  goes_stands k delete (some r) (some s) x5 = elim x5 [ ]
  goes_stands k modify none p x4 = elim x4 [ ]
  goes_stands k modify (some r) none x6 = elim x6 [ ]

  -- has the key
  goes_under : (k : List ℕ) (a : Act) (o p : Option Rec) → Goes P k a o p → Under P k p
  goes_under k insert none (some s) (brings z) = z
  goes_under k delete (some r) none takes = tt
  goes_under k modify (some r) (some s) (alters z) = z
  goes_under k insert none none x3 = elim x3 [ ]
  goes_under k insert (some r) p x3 = elim x3 [ ]
  goes_under k delete none p x3 = elim x3 [ ]
  goes_under k delete (some r) (some s) x5 = elim x5 [ ]
  goes_under k modify none p x4 = elim x4 [ ]
  goes_under k modify (some r) none x6 = elim x6 [ ]

  -- an update record that names another key, and one that names this
  pub fate_skip : (k : List ℕ) (u : Upd) (us : List Upd) (b : Bool) → same (names u) k ≡ false → fate P k (u ∷ us) b ≡ fate P k us b
  unfolding fate
  fate_skip k u us b h = rw h

  pub fate_next : (k : List ℕ) (u : Upd) (us : List Upd) (b : Bool) → same (names u) k ≡ true → fate P k (u ∷ us) b ≡ fate P k us (not (is_delete (act u)))
  unfolding fate
  fate_next k u us b h = rw h

  -- none names it
  pub fate_none : (k : List ℕ) (us : List Upd) (b : Bool) → named P k us ≡ false → fate P k us b ≡ b
  unfolding fate named
  fate_none k [] b n = refl
  fate_none k (u ∷ us) b n = let (h, g) = neither (same (names u) k) (named P k us) n in rw h (fate_none k us b g)

  -- none deletes it
  pub fate_kept : (k : List ℕ) (us : List Upd) → deleted P k us ≡ false → fate P k us true ≡ true
  unfolding fate deleted
  fate_kept k [] n = refl
  fate_kept k (u ∷ us) n =
      let (h, g) = neither (both (is_delete (act u)) (same (names u) k)) (deleted P k us) n in
      by_bool (same (names u) k)
      (λ y. by_bool (is_delete (act u))
      (λ z. absurd (true≢false (rw (y, z) at h)))
      (λ z. rw (y, z) (fate_kept k us g)))
      (λ y. rw y (fate_kept k us g))

module _ (P : Parts) (L : Laws P) where
  open P use {Rec, Upd, key, act, names, change}

  -- a history that is accepted ends as the last act on its key says
  pub history_fate : (k : List ℕ) (us : List Upd) (o p : Option Rec) → Under P k o → history P k us o ≡ ok p → stands (ok p) ≡ fate P k us (stands (ok o))
  unfolding history fate
  history_fate k [] o p w e = ap (λ (x : Option Rec). stands (ok x)) (sym (ok_inj o p e))
  history_fate k (u ∷ us) o p w e =
      by_bool (same (names u) k)
      (λ h. let n = same_sound (names u) k h in
      let (q, x, y) = bind_inv (change u o) (λ q. history P k us q) p (rw h at e) in
      let g : Goes P k (act u) o q = rw n at (L.goes u o q (rw n w) x) in
      rw h (history_fate k us q p (goes_under P k (act u) o q g) y ∙ ap (fate P k us) (goes_stands P k (act u) o q g)))
      (λ h. rw h (history_fate k us o p w (rw h at e)))

  module _ (j : ℕ) (ds : List Rec) (us : List Upd) (v : Once P ds) (fine : judged P j ds [] us ≡ done tt) where
    -- no verdict refuses, so every history is accepted
    pub version_ok : (k : List ℕ) → (o : Option Rec) × (version P ds us k ≡ ok o)
    version_ok k =
        let (d, e) = verdict_done (run P j ds us) (run_judged P L j ds us v ∙ fine) in
        (find P k d, run_version P L j ds us d k v e)

    -- and whether a record stands is its fate
    pub standing_fate : (k : List ℕ) → standing P ds us k ≡ fate P k us (stands (ok (find P k ds)))
    unfolding standing version
    standing_fate k =
        let (o, e) = version_ok k in
        ap stands e ∙ history_fate k us (find P k ds) o (find_under P k ds) e
