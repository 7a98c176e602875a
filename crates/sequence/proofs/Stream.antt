-- The stream is the run's result: of each kind the old records that stay and then the inserted ones, each in its last version. Assumes nothing.
use Prim.Native.Nat.{ℕ, zero, suc, ◌+◌, ◌≤◌, ◌<◌}
use mathlib.Core.Path.{◌≡◌, refl, sym, ap, fun_ext, ◌∙◌}
use mathlib.Core.Bool.{false}
use mathlib.Core.Option.{some, none}
use mathlib.Core.List.{List, [], ◌∷◌, ◌++◌, append_assoc, append-nil}
use native.Mathlib.Omega.{arith}
use borrow.Author.Tests.{eqb-true, eqb-false, ltb-true, ne_eqb}
use lib.Dec.{eqb, ltb}
use Rattle.base.specs.Check.{ok, bind}
use Rattle.base.specs.Lists.{each, gather}
use Rattle.base.specs.Keys.{same, among}
use Rattle.base.proofs.KeysLaws.{same_sound, same_refl, same_sym, same_comm}
use Rattle.base.proofs.OptionLaws.{never, some_inj}
use Rattle.sequence.specs.Keyed.{insert, delete, modify, Parts, done, rank, find, settle, replace, remove, step, run, Ordered, Once, Laws}
use Rattle.sequence.specs.History.{history}
use Rattle.sequence.specs.Order.{keep, is_insert, is_delete, deleted, of_kind}
use Rattle.sequence.specs.Stream.{places, last, stands, kept_of, kept, joined_of, joined, stream, standing}
use Rattle.sequence.proofs.Tests.{by_bool, both_no, done_inj, go_on_done}
use Rattle.sequence.proofs.Lists.{find_none, ordered_from}
use Rattle.sequence.proofs.Local.{Did, did_insert, did_delete, did_modify, did, step_once, run_version}
use Rattle.sequence.proofs.Result.{step_ordered, run_ordered}

module _ (P : Parts) where
  open P use {Rec, Upd, key, place, act, names, change}

  -- ---- old records, before one more update record

  -- one with another key
  kept_other : (q : ℕ) (u : Upd) (us : List Upd) (r : Rec) → same (names u) (key r) ≡ false → kept_of P q (u ∷ us) r ≡ kept_of P q us r
  unfolding kept_of deleted history
  kept_other q u us r n = rw (n, both_no (is_delete (act u)) false refl)

  -- all of them, where none has its key
  kept_others : (q : ℕ) (u : Upd) (us : List Upd) (ds : List Rec) → find P (names u) ds ≡ none → kept P q (u ∷ us) ds ≡ kept P q us ds
  unfolding kept gather
  kept_others q u us [] e = refl
  kept_others q u us (r ∷ rs) e =
      let n = find_none P (names u) r rs e in
      rw (kept_other q u us r (same_sym (key r) (names u) n.0), kept_others q u us rs n.1)

  -- one of another kind
  kept_wrong : (q : ℕ) (us : List Upd) (r : Rec) → (rank P r ≡ q → ⊥) → kept_of P q us r ≡ []
  unfolding kept_of
  kept_wrong q us r h = rw (ne_eqb (rank P r) q h)

  -- all of them, where the kind has gone by
  pub kept_beyond : (q n : ℕ) (us : List Upd) (ds : List Rec) → q < n → Ordered P n ds → kept P q us ds ≡ []
  unfolding kept gather Ordered
  kept_beyond q n us [] h o = refl
  kept_beyond q n us (r ∷ rs) h o =
      rw (kept_wrong q us r (λ e. omega (arith, o.0)), kept_beyond q (rank P r) us rs (omega (arith, o.0)) o.1)

  -- ---- and after it

  -- an insert: the new record stands at the end of its kind
  kept_settle : (q n : ℕ) (us : List Upd) (s : Rec) (ds : List Rec) → Ordered P n ds → kept P q us (settle P s ds) ≡ kept P q us ds ++ kept_of P q us s
  unfolding kept gather settle Ordered
  kept_settle q n us s [] o = append-nil (kept_of P q us s)
  kept_settle q n us s (r ∷ rs) o =
      by_bool (ltb (rank P s) (rank P r))
      (λ h. let l = ltb-true (rank P s) (rank P r) h in
      rw h
      (by_bool (eqb (rank P s) q)
      (λ e. let z = eqb-true (rank P s) q e in
      rw (kept_wrong q us r (λ y. omega arith), kept_beyond q (rank P r) us rs (omega arith) o.1) (append-nil (kept_of P q us s)))
      (λ e. rw (kept_wrong q us s (eqb-false (rank P s) q e)) (sym (append-nil (kept_of P q us r ++ kept P q us rs))))))
      (λ h. rw (h, kept_settle q (rank P r) us s rs o.1) (sym (append_assoc (kept_of P q us r) (kept P q us rs) (kept_of P q us s))))

  -- the record that an insert brings is the one that joins
  brought : (q : ℕ) (u : Upd) (us : List Upd) (s : Rec) → act u ≡ insert → change u none ≡ ok (some s) → key s ≡ names u → joined_of P q u us ≡ kept_of P q us s
  unfolding joined_of kept_of history bind is_insert
  brought q u us s a c z = let y : rank P s ≡ place (names u) = ap place z in rw (a, y, z, same_refl (names u), c)

  -- what is no insert brings none
  not_brought : (q : ℕ) (u : Upd) (us : List Upd) → is_insert (act u) ≡ false → joined_of P q u us ≡ []
  unfolding joined_of
  not_brought q u us a = rw a

  -- the old record that a delete takes
  kept_gone : (q : ℕ) (u : Upd) (us : List Upd) (r : Rec) → act u ≡ delete → key r ≡ names u → kept_of P q (u ∷ us) r ≡ []
  unfolding kept_of deleted is_delete
  kept_gone q u us r a z = rw (a, z, same_refl (names u), both_no (eqb (rank P r) q) false refl)

  -- the old record that a modify changes
  kept_next : (q : ℕ) (u : Upd) (us : List Upd) (r s : Rec) → act u ≡ modify → key r ≡ names u → key s ≡ names u → change u (some r) ≡ ok (some s)
      → kept_of P q (u ∷ us) r ≡ kept_of P q us s
  unfolding kept_of
  kept_next q u us r s a k z y =
      let m : rank P r ≡ rank P s = ap place (k ∙ sym z) in
      rw (m, k, z) (unfold deleted is_delete history bind in rw (a, same_refl (names u), y))

  -- a delete: the old record leaves
  kept_remove : (q : ℕ) (u : Upd) (us : List Upd) (ds : List Rec) → act u ≡ delete → Once P ds → kept P q us (remove P (names u) ds) ≡ kept P q (u ∷ us) ds
  unfolding kept gather remove Once
  kept_remove q u us [] a o = refl
  kept_remove q u us (r ∷ rs) a o =
      by_bool (same (key r) (names u))
      (λ h. rw (h, kept_gone q u us r a (same_sound (key r) (names u) h)) (sym (kept_others q u us rs (rw (same_sound (key r) (names u) h) at o.0))))
      (λ h. rw (h, kept_other q u us r (same_sym (key r) (names u) h), kept_remove q u us rs a o.1))

  -- a modify: the old record is put in its next version
  kept_replace : (q : ℕ) (u : Upd) (us : List Upd) (r s : Rec) (ds : List Rec) → act u ≡ modify → find P (names u) ds ≡ some r → change u (some r) ≡ ok (some s)
      → key s ≡ names u → Once P ds → kept P q us (replace P (names u) s ds) ≡ kept P q (u ∷ us) ds
  unfolding kept gather replace Once find
  kept_replace q u us r s [] a f c z o = never (sym f)
  kept_replace q u us r s (x ∷ xs) a f c z o =
      by_bool (same (key x) (names u))
      (λ h. let k = same_sound (key x) (names u) h in
      let e : x ≡ r = some_inj (rw h at f) in
      rw (h, kept_next q u us x s a k z (ap (λ (y : Rec). change u (some y)) e ∙ c)) (ap (λ (l : List Rec). kept_of P q us s ++ l) (sym (kept_others q u us xs (rw k at o.0)))))
      (λ h. rw (h, kept_other q u us x (same_sym (key x) (names u) h), kept_replace q u us r s xs a (rw h at f) c z o.1))

  -- no update record: every old record of the kind
  kept_none : (q : ℕ) (ds : List Rec) → kept P q [] ds ≡ of_kind P q ds
  unfolding kept gather of_kind keep kept_of deleted history last
  kept_none q [] = refl
  kept_none q (r ∷ rs) =
      by_bool (eqb (rank P r) q)
      (λ h. rw (h, kept_none q rs))
      (λ h. rw (h, kept_none q rs))

  -- ---- a list in the order of kinds is its kinds, one after the other

  -- a record whose kind is not among the places
  kind_past : (n m : ℕ) (r : Rec) (rs : List Rec) → rank P r < n → gather (λ q. of_kind P q (r ∷ rs)) (places n m) ≡ gather (λ q. of_kind P q rs) (places n m)
  unfolding gather places of_kind keep
  kind_past n zero r rs h = refl
  kind_past n (suc m) r rs h =
      rw (ne_eqb (rank P r) n (λ e. omega arith)) (ap (λ (l : List Rec). of_kind P n rs ++ l) (kind_past (suc n) m r rs (omega arith)))

  -- a kind that has gone by
  kind_over : (n q : ℕ) (ds : List Rec) → q < n → Ordered P n ds → of_kind P q ds ≡ []
  unfolding of_kind keep Ordered
  kind_over n q [] h o = refl
  kind_over n q (r ∷ rs) h o = rw (ne_eqb (rank P r) q (λ e. omega (arith, o.0))) (kind_over (rank P r) q rs (omega (arith, o.0)) o.1)

  -- a record before those of its kind and of later ones
  kind_first : (n m : ℕ) (r : Rec) (rs : List Rec) → n ≤ rank P r → rank P r < n + m → Ordered P (rank P r) rs
      → gather (λ q. of_kind P q (r ∷ rs)) (places n m) ≡ r ∷ gather (λ q. of_kind P q rs) (places n m)
  unfolding gather places
  kind_first n zero r rs l h o = absurd (omega arith)
  kind_first n (suc m) r rs l h o =
      by_bool (eqb (rank P r) n)
      (λ e. let z = eqb-true (rank P r) n e in
      rw (kind_past (suc n) m r rs (omega arith)) (unfold of_kind keep in rw e))
      (λ e. let z = eqb-false (rank P r) n e in
      let g : n < rank P r = omega (arith, z) in
      rw (kind_over (rank P r) n (r ∷ rs) g (ordered r rs o), kind_over (rank P r) n rs g o) (kind_first (suc n) m r rs (omega arith) (omega arith) o))
    where
      ordered : (r : Rec) (rs : List Rec) → Ordered P (rank P r) rs → Ordered P (rank P r) (r ∷ rs)
      ordered r rs o = unfold Ordered in (omega arith, o)

  -- no record
  kinds_none : (qs : List ℕ) → gather (λ q. of_kind P q []) qs ≡ []
  unfolding gather of_kind keep
  kinds_none [] = refl
  kinds_none (q ∷ qs) = kinds_none qs

  -- all of it, where every kind has one of m places from n on
  pub by_kinds : (n m : ℕ) (ds : List Rec) → ((r : Rec) → rank P r < n + m) → Ordered P n ds → gather (λ q. of_kind P q ds) (places n m) ≡ ds
  unfolding Ordered
  by_kinds n m [] high o = kinds_none (places n m)
  by_kinds n m (r ∷ rs) high o =
      kind_first n m r rs o.0 (high r) o.1 ∙ ap (λ (l : List Rec). r ∷ l) (by_kinds n m rs high (ordered_from P n (rank P r) rs o.0 o.1))

module _ (P : Parts) (L : Laws P) (n : ℕ) (low : (r : P.Rec) → n ≤ rank P r) where
  open P use {Rec, Upd, key, act, names}

  -- one update record moves nothing in the stream of its rest
  step_kind : (q : ℕ) (ds : List Rec) (u : Upd) (us : List Upd) (d : List Rec) → Ordered P n ds → Once P ds → step P ds u ≡ ok d
      → kept P q us d ++ joined P q us ≡ kept P q (u ∷ us) ds ++ joined P q (u ∷ us)
  unfolding joined is_insert
  step_kind q ds u us d o v e = go (did P L ds u d e)
    where
      go : Did P ds u d → kept P q us d ++ joined P q us ≡ kept P q (u ∷ us) ds ++ joined P q (u ∷ us)
      go (did_insert s a f c z y) =
          rw (y, kept_settle P q n us s ds o, kept_others P q u us ds f, brought P q u us s a c z) (append_assoc (kept P q us ds) (kept_of P q us s) (joined P q us))
      go (did_delete r a f c y) = rw (y, kept_remove P q u us ds a v, not_brought P q u us (rw a))
      go (did_modify r s a f c z y) = rw (y, kept_replace P q u us r s ds a f c z v, not_brought P q u us (rw a))

  -- the order of the result: of each kind the old records not deleted, in their order, then the inserts not deleted later, in file order
  pub run_kind : (q j : ℕ) (ds : List Rec) (us : List Upd) (d : List Rec) → Ordered P n ds → Once P ds → run P j ds us ≡ done d
      → of_kind P q d ≡ kept P q us ds ++ joined P q us
  unfolding run joined
  run_kind q j ds [] d o v x = rw (← done_inj x, kept_none P q ds) (sym (append-nil (of_kind P q ds)))
  run_kind q j ds (u ∷ us) d o v x =
      let (c, s, y) = go_on_done j (step P ds u) (λ c. run P (j + 1) c us) d x in
      run_kind q (j + 1) c us d (step_ordered P L n low ds u c o s) (step_once P L ds u c v s) y ∙ step_kind q ds u us c o v s

  -- the whole result, where every kind has one of m places from n on
  pub run_stream : (m j : ℕ) (ds : List Rec) (us : List Upd) (d : List Rec) → ((r : Rec) → rank P r < n + m) → Ordered P n ds → Once P ds → run P j ds us ≡ done d
      → d ≡ stream P (places n m) ds us
  unfolding stream
  run_stream m j ds us d high o v x =
      let e : ◌≡◌ {A = ℕ → List Rec} (λ q. of_kind P q d) (λ q. kept P q us ds ++ joined P q us) = fun_ext (λ q. run_kind q j ds us d o v x) in
      sym (by_kinds P n m d high (run_ordered P L n low j ds us d o x)) ∙ ap (λ (f : ℕ → List Rec). gather f (places n m)) e

-- ---- what stands at the end

module _ (P : Parts) where
  -- a key is among those of the records where a record is found under it
  pub among_find : (k : List ℕ) (ds : List P.Rec) → among k (each P.key ds) ≡ stands (ok (find P k ds))
  unfolding among each find stands
  among_find k [] = refl
  among_find k (r ∷ rs) =
      rw (same_comm k (P.key r))
      (by_bool (same (P.key r) k)
      (λ h. rw h)
      (λ h. rw h (among_find k rs)))

  -- after a run: where a record stands at the end of the key's history
  pub run_standing : Laws P → (j : ℕ) (ds : List P.Rec) (us : List P.Upd) (d : List P.Rec) (k : List ℕ) → Once P ds → run P j ds us ≡ done d
      → among k (each P.key d) ≡ standing P ds us k
  unfolding standing
  run_standing L j ds us d k v x = among_find k d ∙ ap stands (sym (run_version P L j ds us d k v x))
