-- Locality: an update record reads and changes the record with its own key alone, and the verdict on it is by that key's history alone. Assumes nothing.
use Prim.Native.Nat.{ℕ, ◌+◌}
use mathlib.Core.Path.{◌≡◌, refl, sym, ap, ◌∙◌}
use mathlib.Core.Bool.{true, false}
use mathlib.Core.Option.{Option, some, none}
use mathlib.Core.List.{List, [], ◌∷◌, ◌++◌, append_assoc, append-nil}
use Rattle.base.specs.Check.{Check, ok, no, bind}
use Rattle.base.specs.Keys.{same}
use Rattle.base.proofs.CheckLaws.{bind_inv, ok_inj}
use Rattle.base.proofs.KeysLaws.{same_sound}
use Rattle.sequence.specs.Keyed.{Act, insert, delete, modify, Parts, done, go_on, Under, Goes, brings, takes, alters, find, settle, replace, remove, store, step, run, Once, Laws}
use Rattle.sequence.specs.History.{history, version, due, judged, verdict}
use Rattle.sequence.proofs.Tests.{by_bool, done_inj, go_on_done, bind_on, bind_unit}
use Rattle.sequence.proofs.Lists.{find_under, find_settled, find_settle, find_replaced, find_replace, find_removed, find_remove, once_settle, once_remove, once_replace}

-- an accepted update record, taken apart: what stood under its key, what it made of that, and the records afterwards
pub data Did (P : Parts) (ds : List P.Rec) (u : P.Upd) (d : List P.Rec) : Type 0 where
  did_insert : (s : P.Rec) → P.act u ≡ insert → find P (P.names u) ds ≡ none → P.change u none ≡ ok (some s) → P.key s ≡ P.names u → d ≡ settle P s ds → Did P ds u d
  did_delete : (r : P.Rec) → P.act u ≡ delete → find P (P.names u) ds ≡ some r → P.change u (some r) ≡ ok none → d ≡ remove P (P.names u) ds → Did P ds u d
  did_modify : (r s : P.Rec) → P.act u ≡ modify → find P (P.names u) ds ≡ some r → P.change u (some r) ≡ ok (some s) → P.key s ≡ P.names u
      → d ≡ replace P (P.names u) s ds → Did P ds u d

module _ (P : Parts) (L : Laws P) where
  open P use {Rec, Upd, key, act, names, change}

  -- ---- one update record

  -- by what it made of what stood under its key
  did_by : (ds : List Rec) (u : Upd) (d : List Rec) (a : Act) (o p : Option Rec) → act u ≡ a → find P (names u) ds ≡ o → change u o ≡ ok p → store P (names u) o p ds ≡ d
      → Goes P (names u) a o p → Did P ds u d
  unfolding store
  did_by ds u d insert none (some s) x f c e (brings q) = did_insert s x f c q (sym e)
  did_by ds u d delete (some r) none x f c e takes = did_delete r x f c (sym e)
  did_by ds u d modify (some r) (some s) x f c e (alters q) = did_modify r s x f c q (sym e)
  did_by ds u d insert none none x f c e x16 = elim x16 [ ]
  did_by ds u d insert (some r) p x f c e x12 = elim x12 [ ]
  did_by ds u d delete none p x f c e x12 = elim x12 [ ]
  did_by ds u d delete (some r) (some s) x f c e x18 = elim x18 [ ]
  did_by ds u d modify none p x f c e x13 = elim x13 [ ]
  did_by ds u d modify (some r) none x f c e x19 = elim x19 [ ]

  -- what a step that was accepted did
  pub did : (ds : List Rec) (u : Upd) (d : List Rec) → step P ds u ≡ ok d → Did P ds u d
  unfolding step
  did ds u d e =
      let o = find P (names u) ds in
      let (p, c, z) = bind_inv (change u o) (λ new. ok (store P (names u) o new ds)) d e in
      did_by ds u d (act u) o p refl refl c (ok_inj _ _ z) (L.goes u o p (find_under P (names u) ds) c)

  -- a step leaves every record with another key
  pub step_other : (ds : List Rec) (u : Upd) (d : List Rec) (k : List ℕ) → same (names u) k ≡ false → step P ds u ≡ ok d → find P k d ≡ find P k ds
  step_other ds u d k n e = go (did ds u d e)
    where
      go : Did P ds u d → find P k d ≡ find P k ds
      go (did_insert s a f c q y) = rw y (find_settle P k s ds (rw q n))
      go (did_delete r a f c y) = rw y (find_remove P (names u) k ds n)
      go (did_modify r s a f c q y) = rw y (find_replace P (names u) k s ds q n)

  -- a step keeps each key once
  pub step_once : (ds : List Rec) (u : Upd) (d : List Rec) → Once P ds → step P ds u ≡ ok d → Once P d
  step_once ds u d v e = go (did ds u d e)
    where
      go : Did P ds u d → Once P d
      go (did_insert s a f c q y) = rw y (once_settle P s ds (rw q f) v)
      go (did_delete r a f c y) = rw y (once_remove P (names u) ds v)
      go (did_modify r s a f c q y) = rw y (once_replace P (names u) s ds q v)

  -- under the key is what the update record made
  stored : (ds : List Rec) (k : List ℕ) (a : Act) (o p : Option Rec) → Once P ds → find P k ds ≡ o → Goes P k a o p → find P k (store P k o p ds) ≡ p
  unfolding store
  stored ds k insert none (some s) v f (brings q) = find_settled P k s ds q f
  stored ds k delete (some r) none v f takes = find_removed P k ds v
  stored ds k modify (some r) (some s) v f (alters q) = find_replaced P k r s ds q f
  stored ds k insert none none v f x9 = elim x9 [ ]
  stored ds k insert (some r) p v f x7 = elim x7 [ ]
  stored ds k delete none p v f x7 = elim x7 [ ]
  stored ds k delete (some r) (some s) v f x11 = elim x11 [ ]
  stored ds k modify none p v f x8 = elim x8 [ ]
  stored ds k modify (some r) none v f x12 = elim x12 [ ]

  -- a step is refused as the change of the version that stands is, or leaves under its key what that gives
  pub step_own : (ds : List Rec) (u : Upd) → Once P ds → change u (find P (names u) ds) ≡ bind (step P ds u) (λ d. ok (find P (names u) d))
  unfolding step bind
  step_own ds u v = go (change u (find P (names u) ds)) refl
    where
      go : (c : Check (Option Rec)) → change u (find P (names u) ds) ≡ c
          → c ≡ bind (bind c (λ new. ok (store P (names u) (find P (names u) ds) new ds))) (λ d. ok (find P (names u) d))
      go (no x) e = refl
      go (ok p) e = ap {B = Check (Option Rec)} ok (sym (stored ds (names u) (act u) (find P (names u) ds) p v refl (L.goes u _ p (find_under P (names u) ds) e)))

  -- ---- the history of one key

  -- one part of the update records after the other
  pub history_append : (k : List ℕ) (a b : List Upd) (o : Option Rec) → history P k (a ++ b) o ≡ bind (history P k a o) (λ p. history P k b p)
  unfolding history bind
  history_append k [] b o = refl
  history_append k (u ∷ a) b o =
      by_bool (same (names u) k)
      (λ h. rw h (bind_on (change u o) (λ p. history P k a p) (λ p. history P k b p) (λ p. history P k (a ++ b) p) (λ p. history_append k a b p)))
      (λ h. rw h (history_append k a b o))

  -- one update record with the key
  pub history_own : (k : List ℕ) (u : Upd) (o : Option Rec) → same (names u) k ≡ true → history P k (u ∷ []) o ≡ change u o
  unfolding history
  history_own k u o h = rw h (bind_unit (change u o))

  -- one update record with another key
  pub history_other : (k : List ℕ) (u : Upd) (us : List Upd) (o : Option Rec) → same (names u) k ≡ false → history P k (u ∷ us) o ≡ history P k us o
  unfolding history
  history_other k u us o h = rw h

  -- all through its history what stands under a key has that key
  pub history_under : (k : List ℕ) (us : List Upd) (o p : Option Rec) → Under P k o → history P k us o ≡ ok p → Under P k p
  unfolding history
  history_under k [] o p w e = rw (← ok_inj o p e) w
  history_under k (u ∷ us) o p w e =
      by_bool (same (names u) k)
      (λ h. let n = same_sound (names u) k h in
      let (q, x, y) = bind_inv (change u o) (λ q. history P k us q) p (rw h at e) in
      history_under k us q p (made (act u) o q (rw n at (L.goes u o q (rw n w) x))) y)
      (λ h. history_under k us o p w (rw h at e))
    where
      made : (a : Act) (o q : Option Rec) → Goes P k a o q → Under P k q
      made insert none (some s) (brings z) = z
      made delete (some r) none takes = tt
      made modify (some r) (some s) (alters z) = z
      made insert none none x5 = elim x5 [ ]
      made insert (some r) q x5 = elim x5 [ ]
      made delete none q x5 = elim x5 [ ]
      made delete (some r) (some s) x7 = elim x7 [ ]
      made modify none q x6 = elim x6 [ ]
      made modify (some r) none x8 = elim x8 [ ]

  -- ---- a run, by the histories of its keys

  -- d is what the update records pre make of ds, as far as single keys can tell
  unfoldable pub Reached : List Rec → List Upd → List Rec → Type 0
  Reached ds pre d = (k : List ℕ) → version P ds pre k ≡ ok (find P k d)

  -- before the first update record
  reached_none : (ds : List Rec) → Reached ds [] ds
  unfolding Reached version history
  reached_none ds k = refl

  -- after one more
  reached_step : (ds : List Rec) (pre : List Upd) (d : List Rec) (u : Upd) (e : List Rec) → Once P d → Reached ds pre d → step P d u ≡ ok e → Reached ds (pre ++ (u ∷ [])) e
  unfolding Reached version bind
  reached_step ds pre d u e v re s k =
      rw (history_append k pre (u ∷ []) (find P k ds), re k)
      (by_bool (same (names u) k)
      (λ h. history_own k u (find P k d) h ∙ rw (← same_sound (names u) k h) (step_own d u v ∙ rw s))
      (λ h. history_other k u [] (find P k d) h ∙ (unfold history in ap {B = Check (Option Rec)} ok (sym (step_other d u e k h s)))))

  -- the verdict by the key's history is the step's
  due_own : (ds : List Rec) (pre : List Upd) (d : List Rec) (u : Upd) → Once P d → Reached ds pre d → due P ds pre u ≡ bind (step P d u) (λ e. ok (find P (names u) e))
  unfolding Reached due bind
  due_own ds pre d u v re = rw (re (names u)) (step_own d u v)

  -- the verdicts from update record j on
  run_from : (j : ℕ) (ds : List Rec) (pre us : List Upd) (d : List Rec) → Once P d → Reached ds pre d → verdict (run P j d us) ≡ judged P j ds pre us
  unfolding run judged verdict go_on bind
  run_from j ds pre [] d v re = refl
  run_from j ds pre (u ∷ us) d v re = rw (due_own ds pre d u v re) (go (step P d u) refl (λ e w x. run_from (j + 1) ds (pre ++ (u ∷ [])) us e w x))
    where
      go : (c : Check (List Rec)) → step P d u ≡ c
          → ((e : List Rec) → Once P e → Reached ds (pre ++ (u ∷ [])) e → verdict (run P (j + 1) e us) ≡ judged P (j + 1) ds (pre ++ (u ∷ [])) us)
          → verdict (go_on j c (λ e. run P (j + 1) e us)) ≡ go_on j (bind c (λ e. ok (find P (names u) e))) (λ o. judged P (j + 1) ds (pre ++ (u ∷ [])) us)
      go (no x) s ih = refl
      go (ok e) s ih = ih e (step_once d u e v s) (reached_step ds pre d u e v re s)

  -- a run ends as the verdicts do, each by the history of its own key
  pub run_judged : (j : ℕ) (ds : List Rec) (us : List Upd) → Once P ds → verdict (run P j ds us) ≡ judged P j ds [] us
  run_judged j ds us v = run_from j ds [] us ds v (reached_none ds)

  -- after a run that was done
  run_reached : (j : ℕ) (ds : List Rec) (pre us : List Upd) (d e : List Rec) → Once P d → Reached ds pre d → run P j d us ≡ done e → Reached ds (pre ++ us) e
  unfolding run
  run_reached j ds pre [] d e v re x = rw (append-nil, ← done_inj x) re
  run_reached j ds pre (u ∷ us) d e v re x =
      let (c, s, y) = go_on_done j (step P d u) (λ c. run P (j + 1) c us) e x in
      rw append_assoc at (run_reached (j + 1) ds (pre ++ (u ∷ [])) us c e (step_once d u c v s) (reached_step ds pre d u c v re s) y)

  -- what stands under a key after a run is what the update records that name it make of what stood there
  pub run_version : (j : ℕ) (ds : List Rec) (us : List Upd) (d : List Rec) (k : List ℕ) → Once P ds → run P j ds us ≡ done d → version P ds us k ≡ ok (find P k d)
  unfolding Reached
  run_version j ds us d k v x = run_reached j ds [] us ds d v (reached_none ds) x k
