-- Laws of a file that follows a holding, and of one that does not at a glance. Assumes nothing.
use mathlib.Core.Path.{◌≡◌, refl, sym, ap, ap₂, subst, ◌∙◌}
use mathlib.Core.Bool.{Bool, true, false, not, true≢false}
use mathlib.Core.Option.{some}
use mathlib.Core.List.{List, [], ◌∷◌, ◌++◌}
use Prim.Native.Nat.{ℕ, ◌+◌, ◌-◌, ◌≤◌, ◌<◌}
use native.Mathlib.Omega.{arith}
use borrow.Author.Tests.{le-leb, lt-leb, eq-eqb, ne_eqb, not-true}
use lib.Dec.{eqb}
use lib.ListN.{length, take, drop, length-drop}
use lib.Seq.{drop-drop}
use Rattle.std.specs.Prelude.{Some, None, Result, Ok, Err}
use Rattle.base.specs.declared.Refusal.{Refusal}
use Rattle.base.specs.Keys.{same}
use Rattle.base.proofs.ChoiceLaws.{both_hold, both_too}
use Rattle.base.proofs.KeysLaws.{same_sound, same_refl}
use Rattle.sequence.proofs.Tests.{by_bool}
use Rattle.fields.specs.Bytes.{le, run}
use Rattle.fields.specs.Sizes.{size, sizes}
use Rattle.fields.specs.Table.{head_of, tuple_of, rcid, count, code}
use Rattle.fields.specs.Values.{Val, value, values, num_at, text_at}
use Rattle.fields.specs.declared.Format.TheVariants.{Dsid}
use Rattle.fields.specs.declared.Sub.{Sub}
use Rattle.fields.specs.declared.Sub.TheVariants.{B11, Text, Fixed}
use Rattle.fields.proofs.FieldLaws.{fill_head}
use Rattle.fields.proofs.SizeLaws.{num_some, num_widths, text_some, fixed_some, sizes_cons}
use Rattle.fields.proofs.ValueLaws.{values_first}
use Rattle.skeleton.specs.File.{Field}
use Rattle.skeleton.specs.Place.{between}
use Rattle.skeleton.proofs.BetweenLaws.{length_between}
use Rattle.rules.specs.General.{dsid_of, name_of, edition_of, number_of}
use Rattle.rules.specs.Outcome.{Outcome, done, refused}
use Rattle.rules.specs.declared.Mode.TheVariants.{InUpdate}
use Rattle.rules.proofs.OutcomeLaws.{and_then_inv}
use Rattle.opening.specs.Carried.{first_two}
use Rattle.following.specs.Naming.{Identified}
use Rattle.parcels.specs.Front.{general_in}
use Rattle.parcels.specs.Holding.{edition_told, number_told, name_told, follows_as, follows_by, follows}
use Rattle.parcels.proofs.FrontLaws.{front_is}
use Rattle.cable.specs.Glance.{Glance, glance_of, ends_next, may_follow_by, may_follow}
use Rattle.cable.specs.Naming.{dsid_follows}
use Rattle.cable.specs.Front.{DsidAt, FrontIn}
use Rattle.skeleton.proofs.RecordLaws.{rest, rest_is}
use Rattle.cable.proofs.FrontLaws.{Seen, seen}
use Rattle.cable.proofs.GlanceLaws.{seen_runs, seen_inside}

-- ---- the last subfields of DSID

-- subfields behind others: they take so many bytes at the end, and their values are the last ones
record Behind (ds last : List Sub) (l : List ℕ) (n : ℕ) : Type 0 where
  long : ℕ
  inside : long ≤ n
  taken : sizes last (drop (n - long) l) ≡ some long
  held : drop (length ds) (values (ds ++ last) l) ≡ values last (drop (n - long) l)

behind : (ds last : List Sub) (l : List ℕ) (n : ℕ) → sizes (ds ++ last) l ≡ some n → Behind ds last l n
behind [] last l n e = let z : n - n ≡ 0 = omega arith in record { long = n; inside = omega arith; taken = rw z e; held = rw z refl }
behind (d ∷ ds) last l n e =
    let (m, k, x, y, z) = sizes_cons d (ds ++ last) l n e in
    let b = behind ds last (drop m l) k y in
    let v : m + (k - b.long) ≡ n - b.long = omega (arith, b.inside) in
    let w : drop (k - b.long) (drop m l) ≡ drop (n - b.long) l = drop-drop (k - b.long) m l ∙ ap (λ (i : ℕ). drop i l) v in
    record {
      long = b.long;
      inside = omega (arith, b.inside);
      taken = rw (← w) b.taken;
      held = ap (λ (vs : List Val). drop (length (d ∷ ds)) vs) (values_first d (ds ++ last) l m x) ∙ b.held ∙ ap (values last) w;
    }

-- DSNM, EDTN, UPDN and ISDT
abbrev last_four : List Sub
last_four = Text ∷ count ∷ code ∷ Fixed 8 ∷ []

-- DSNM of so many bytes, its 1F, and twelve bytes more, two of which UPDN begins three bytes behind DSNM
four_of : (l : List ℕ) (n : ℕ) → sizes last_four l ≡ some n
    → (n ≡ run l + 13) × (text_at (values last_four l) 0 ≡ take (run l) l) × (num_at (values last_four l) 2 ≡ le 2 (drop (run l + 3) l))
unfolding size values value
four_of l n e =
    let (a, k, x, y, z) = sizes_cons Text (count ∷ code ∷ Fixed 8 ∷ []) l n e in
    let (b, i, u, v, w) = sizes_cons count (code ∷ Fixed 8 ∷ []) (drop a l) k y in
    let (c, j, p, q, r) = sizes_cons code (Fixed 8 ∷ []) (drop b (drop a l)) i v in
    let (d, o, f, g, h) = sizes_cons (Fixed 8) [] (drop c (drop b (drop a l))) j q in
    let ea : run l + 1 ≡ a = (text_some l a x).0 in
    let eb : 2 ≡ b = (num_some 2 _ (drop a l) b u).0 in
    let ec : 2 ≡ c = (num_some 2 _ (drop b (drop a l)) c p).0 in
    let ed : 8 ≡ d = (fixed_some 8 (drop c (drop b (drop a l))) d f).0 in
    let eo : o ≡ 0 = num_widths [] (drop d (drop c (drop b (drop a l)))) o refl g in
    let at : drop b (drop a l) ≡ drop (run l + 3) l = drop-drop b a l ∙ ap (λ (m : ℕ). drop m l) (let t : a + b ≡ run l + 3 = omega arith in t) in
    (omega arith, refl, rw (x, u) (ap (le 2) at))

record Ends (b : List ℕ) : Type 0 where
  long : ℕ
  room : long + 13 ≤ length b
  name : text_at (values (head_of Dsid) b) 7 ≡ between b (length b - 13 - long) (length b - 13)
  number : num_at (values (head_of Dsid) b) 9 ≡ le 2 (drop (length b - 13 + 3) b)

dsid_ends : (b : List ℕ) → Identified b → Ends b
unfolding head_of tuple_of values
dsid_ends b g =
    let q = behind (B11 10 10 ∷ rcid ∷ Text ∷ Text ∷ Text ∷ Text ∷ Text ∷ []) last_four b (length b) (fill_head (head_of Dsid) b g) in
    let l = drop (length b - q.long) b in
    let (n, t, m) = four_of l q.long q.taken in
    let i : length b - q.long ≡ length b - 13 - run l = omega (arith, q.inside) in
    let k : length b - 13 - (length b - 13 - run l) ≡ run l = omega (arith, q.inside) in
    let w : length b - q.long + (run l + 3) ≡ length b - 13 + 3 = omega (arith, q.inside) in
    record {
      long = run l;
      room = omega (arith, q.inside);
      name = ap (λ (vs : List Val). text_at vs 0) q.held ∙ t ∙ ap₂ (λ (x y : ℕ). take x (drop y b)) (sym k) i;
      number = ap (λ (vs : List Val). num_at vs 2) q.held ∙ m ∙ ap (le 2) (drop-drop (run l + 3) (length b - q.long) b ∙ ap (λ (x : ℕ). drop x b) w);
    }

-- ---- `ends_next`

module _ (h b : List ℕ) where
  pub next_short : length b < 13 → false ≡ ends_next h b
  unfolding ends_next
  next_short l = simp (lt-leb 13 (length b) l)

  module _ (l : 13 ≤ length b) where
    module _ (m n : ℕ) (em : m ≡ le 2 (drop 8 h)) (en : n ≡ le 2 (drop (length b - 13 + 3) b)) where
      pub next_other : (n ≡ m + 1 → ⊥) → false ≡ ends_next h b
      unfolding ends_next number_told
      next_other e = rw (← em, ← en) (simp (le-leb 13 (length b) l, ne_eqb n (m + 1) e))

      module _ (e : n ≡ m + 1) where
        pub next_long : length b - 13 < length h - 10 → false ≡ ends_next h b
        unfolding ends_next number_told
        next_long w = rw (← em, ← en) (simp (le-leb 13 (length b) l, eq-eqb n (m + 1) e, lt-leb (length h - 10) (length b - 13) w))

        module _ (w : length h - 10 ≤ length b - 13) where
          pub next_named : (t : Bool) → t ≡ same (between b (length b - 13 - (length h - 10)) (length b - 13)) (rest h 10) → t ≡ ends_next h b
          unfolding ends_next number_told name_told
          next_named t x =
              rw (← em, ← en)
              (simp (le-leb 13 (length b) l, eq-eqb n (m + 1) e, le-leb (length h - 10) (length b - 13) w)
              (x ∙ ap (same (between b (length b - 13 - (length h - 10)) (length b - 13))) (rest_is h 10)))

pub ruleset next_ways = (next_short, next_other, next_long, next_named)

-- a DSID that follows ends so
ends_so : (h b : List ℕ) → Identified b → dsid_follows h b ≡ true → ends_next h b ≡ true
unfolding ends_next dsid_follows name_told
ends_so h b g e =
    let q = dsid_ends b g in
    let v = values (head_of Dsid) b in
    let (a, c) = both_hold (same (text_at v 7) (name_told h)) _ e in
    let (d, f) = both_hold (eqb (num_at v 8) (edition_told h)) _ c in
    let name : between b (length b - 13 - q.long) (length b - 13) ≡ name_told h = sym q.name ∙ same_sound (text_at v 7) (name_told h) a in
    let long : length h - 10 ≡ q.long = sym (length-drop 10 h) ∙ ap length (sym name) ∙ length_between b (length b - 13 - q.long) (length b - 13) (omega arith) ∙ omega (arith, q.room) in
    let number : eqb (le 2 (drop (length b - 13 + 3) b)) (number_told h + 1) ≡ true = rw (← q.number) f in
    both_too (le-leb 13 (length b) (omega (arith, q.room))) (both_too number (both_too (le-leb (length h - 10) (length b - 13) (omega (arith, q.room))) (rw (long, name) (same_refl (drop 10 h)))))

never_follows : (h b : List ℕ) → Identified b → ends_next h b ≡ false → dsid_follows h b ≡ false
never_follows h b g e =
    by_bool (dsid_follows h b)
    (λ x. absurd (true≢false (sym (ends_so h b g x) ∙ e)))
    (λ x. x)

-- ---- `may_follow`

module _ (h f : List ℕ) (g : Glance) (eg : g ≡ glance_of f) where
  pub may_so : (i j : ℕ) → g ≡ Some (i, j) → (r : Bool) → r ≡ ends_next h (between f i j) → r ≡ may_follow h f
  unfolding may_follow may_follow_by
  may_so i j x r e = rw (← eg, x) e

  pub may_not : g ≡ None → false ≡ may_follow h f
  unfolding may_follow may_follow_by
  may_not x = rw (← eg, x) refl

pub ruleset may_ways = (seen_runs, seen_inside, may_so, may_not, arith)

-- ---- `follows`

module _ (h f : List ℕ) (q : Result (ℕ × ℕ) Refusal) (eq : FrontIn InUpdate f q) where
  module _ (i j : ℕ) (x : q ≡ Ok (i, j)) where
    dsid : DsidAt InUpdate f i j
    dsid = subst (FrontIn InUpdate f) x eq

    pub follows_runs : i ≤ j
    follows_runs = dsid.runs

    pub follows_in : j ≤ length f
    follows_in = dsid.inside

    pub follows_filled : Identified (between f i j)
    follows_filled = dsid.filled

    pub follows_so : (r : Bool) → r ≡ dsid_follows h (between f i j) → r ≡ follows h f
    unfolding follows follows_by follows_as dsid_follows name_of edition_of number_of dsid_of
    follows_so r e = rw (dsid.read, dsid.body) e

  pub follows_not : (y : Refusal) → q ≡ Err y → false ≡ follows h f
  unfolding follows follows_by
  follows_not y x = let s : general_in InUpdate f ≡ refused 2 y.rec y.fault = subst (FrontIn InUpdate f) x eq in rw s

-- a file that does not at a glance
passes_over : (h f : List ℕ) → may_follow h f ≡ false → false ≡ follows h f
passes_over h f e = go (general_in InUpdate f) refl
  where
    by_glance : (s : Seen InUpdate f) → may_follow h f ≡ ends_next h (between f s.from s.to)
    by_glance s = unfold may_follow may_follow_by in rw s.glanced refl

    go : (o : Outcome (List Field)) → general_in InUpdate f ≡ o → false ≡ follows h f
    go (done fs) x =
        let (k, o, w) = and_then_inv (first_two 2 InUpdate f) _ fs (sym (front_is InUpdate f) ∙ x) in
        let s = seen InUpdate f k o in
        let z : false ≡ ends_next h (between f s.from s.to) = sym e ∙ by_glance s in
        follows_so h f (Ok (s.from, s.to)) s.dsid s.from s.to refl false (sym (never_follows h (between f s.from s.to) s.dsid.filled (sym z)))
    go (refused file n y) x = unfold follows follows_by in rw x refl

pub passed_over : (h f : List ℕ) (t : Bool) → t ≡ may_follow h f → not t ≡ true → false ≡ follows h f
passed_over h f t e x = passes_over h f (sym e ∙ not-true t x)

pub ruleset follows_ways = (passed_over, follows_runs, follows_in, follows_filled, follows_so, follows_not, arith)
