-- The written fields of a sound record stand in the order of its kind, and none that is needed is missing. Assumes nothing.
use Prim.Native.Nat.{ℕ, ◌+◌, ◌<◌}
use mathlib.Core.Path.{◌≡◌, refl}
use mathlib.Core.Bool.{Bool, true, false}
use mathlib.Core.Option.{some}
use mathlib.Core.List.{List, [], ◌∷◌, ◌++◌, append-nil}
use native.Mathlib.Omega.{arith}
use lib.ListN.{length}
use lib.Dec.{eqb}
use borrow.Author.Tests.{eq-eqb}
use Rattle.base.specs.Check.{pass}
use Rattle.base.specs.Lists.{each, empty}
use Rattle.skeleton.specs.File.{Field}
use Rattle.rules.specs.Tags.{FOID, ATTR, INAS, SPAS, COCC, C2IT, C2IL}
use Rattle.rules.specs.ByTag.{with_tag, has}
use Rattle.rules.specs.Kind.{Row, once, needs, any, rows_of}
use Rattle.rules.specs.Grammar.{rows_after, in_order, complete}
use Rattle.rules.specs.Record.{Assoc}
use Rattle.rules.specs.Written.{field_as, list_field, assoc_field, coord_tag}
use Rattle.rules.specs.declared.Kind.{Kind}
use Rattle.rules.specs.declared.Kind.TheVariants.{Info, Point, Multi, Feature}

-- what a kind lacks has no bytes
abbrev pub Empties : Kind → List ℕ → List ℕ → List ℕ → List ℕ → Type 0
Empties Info x a c s = (x ≡ []) × (c ≡ []) × (s ≡ [])
Empties Point x a c s = (x ≡ []) × (a ≡ []) × (s ≡ [])
Empties Multi x a c s = (x ≡ []) × (a ≡ []) × (s ≡ [])
Empties Feature x a c s = c ≡ []

-- the fields of a record, by their bytes
abbrev pub laid : Kind → List ℕ → List ℕ → List Assoc → List ℕ → List ℕ → List Field
laid k x a l c s = list_field FOID x ++ (list_field ATTR a ++ (each assoc_field l ++ (list_field (coord_tag k) c ++ list_field SPAS s)))

module _ (shut : ℕ → Bool) where
  -- the fields stand in the order of the rows, whatever their number
  abbrev pub Ord : List Row → List Field → Type 0
  Ord rows fs = (i : ℕ) → in_order shut rows i fs ≡ pass

  -- no fields
  pub ord_nil : (rows : List Row) → Ord rows []
  unfolding in_order
  ord_nil rows i = refl

  -- one field, and then the others
  ord_one : (f : Field) (fs : List Field) (rows left : List Row) → shut f.tag ≡ false → rows_after f.tag rows ≡ some left → Ord left fs → Ord rows (f ∷ fs)
  unfolding in_order
  ord_one f fs rows left s a o i = rw (s, a) (o (i + 1))

  -- a list, which may have no field, and then the others
  pub ord_list : (t : ℕ) (b : List ℕ) (fs : List Field) (rows left : List Row) → shut t ≡ false → rows_after t rows ≡ some left → Ord rows fs → Ord left fs → Ord rows (list_field t b ++ fs)
  unfolding list_field
  ord_list t [] fs rows left s a o p = o
  ord_list t (x ∷ b) fs rows left s a o p = ord_one (field_as t (x ∷ b)) fs rows left s a p

  -- associations, and then the others
  pub ord_assocs : (l : List Assoc) (fs : List Field) (rows left : List Row) → shut INAS ≡ false → rows_after INAS rows ≡ some left → rows_after INAS left ≡ some left
      → Ord rows fs → Ord left fs → Ord rows (each assoc_field l ++ fs)
  unfolding each assoc_field
  ord_assocs [] fs rows left s a b o p = o
  ord_assocs (x ∷ l) fs rows left s a b o p = ord_one (assoc_field x) (each assoc_field l ++ fs) rows left s a (ord_assocs l fs left left s b b p p)

  -- a list at the end
  ord_last : (t : ℕ) (b : List ℕ) (rows left : List Row) → shut t ≡ false → rows_after t rows ≡ some left → Ord rows (list_field t b)
  ord_last t b rows left s a = rw (← append-nil (list_field t b)) (ord_list t b [] rows left s a (ord_nil rows) (ord_nil left))

  -- they stand in the order of the kind
  pub ord_kind : ((t : ℕ) → eqb t COCC ≡ false → shut t ≡ false) → (k : Kind) (x a : List ℕ) (l : List Assoc) (c s : List ℕ) → Empties k x a c s → Ord (rows_of k) (laid k x a l c s)
  unfolding rows_of rows_after list_field coord_tag
  ord_kind free Info x a l c s (p, q, r) =
      let inas : List Row = any INAS ∷ [] in
      let all : List Row = once ATTR ∷ inas in
      rw (p, q, r)
      (ord_list ATTR a _ all inas (free ATTR refl) refl
      (ord_assocs l [] all inas (free INAS refl) refl refl (ord_nil all) (ord_nil inas))
      (ord_assocs l [] inas inas (free INAS refl) refl refl (ord_nil inas) (ord_nil inas)))
  ord_kind free Point x a l c s (p, q, r) =
      let all : List Row = any INAS ∷ needs C2IT ∷ [] in
      let last = ord_list C2IT c [] all [] (free C2IT refl) refl (ord_nil all) (ord_nil []) in
      rw (p, q, r) (ord_assocs l _ all all (free INAS refl) refl refl last last)
  ord_kind free Multi x a l c s (p, q, r) =
      let list : List Row = any C2IL ∷ [] in
      let all : List Row = any INAS ∷ once COCC ∷ list in
      let last = ord_list C2IL c [] all list (free C2IL refl) refl (ord_nil all) (ord_nil list) in
      rw (p, q, r) (ord_assocs l _ all all (free INAS refl) refl refl last last)
  ord_kind free Feature x a l c s r =
      let spas : List Row = any SPAS ∷ [] in
      let inas : List Row = any INAS ∷ spas in
      let attr : List Row = once ATTR ∷ inas in
      let all : List Row = needs FOID ∷ attr in
      let last : (rows : List Row) → rows_after SPAS rows ≡ some spas → Ord rows (list_field SPAS s) = λ rows e. ord_last SPAS s rows spas (free SPAS refl) e in
      let from : (rows : List Row) → rows_after INAS rows ≡ some inas → rows_after SPAS rows ≡ some spas → Ord rows (each assoc_field l ++ list_field SPAS s) =
      λ rows e f. ord_assocs l (list_field SPAS s) rows inas (free INAS refl) e refl (last rows f) (last inas refl) in
      let then : (rows : List Row) → rows_after ATTR rows ≡ some inas → rows_after INAS rows ≡ some inas → rows_after SPAS rows ≡ some spas
      → Ord rows (list_field ATTR a ++ (each assoc_field l ++ list_field SPAS s)) =
      λ rows e f g. ord_list ATTR a (each assoc_field l ++ list_field SPAS s) rows inas (free ATTR refl) e (from rows f g) (from inas refl refl) in
      rw r (ord_list FOID x _ all attr (free FOID refl) refl (then all refl refl refl) (then attr refl refl refl))

-- ---- none is missing

-- a list of bytes has a field
has_list : (t : ℕ) (b : List ℕ) (fs : List Field) → 0 < length b → has t (list_field t b ++ fs) ≡ true
unfolding has with_tag list_field empty
has_list t [] fs h = absurd (omega arith)
has_list t (x ∷ b) fs h = rw (eq-eqb t t refl)

-- behind associations
has_behind : (t : ℕ) (l : List Assoc) (fs : List Field) → eqb INAS t ≡ false → has t (each assoc_field l ++ fs) ≡ has t fs
unfolding has with_tag each assoc_field
has_behind t [] fs h = refl
has_behind t (a ∷ l) fs h = rw h (has_behind t l fs h)

-- every field that a record of its kind needs
pub complete_kind : (k : Kind) (x a : List ℕ) (l : List Assoc) (c s : List ℕ) → Empties k x a c s → (k ≡ Feature → 0 < length x) → (k ≡ Point → 0 < length c)
    → complete (rows_of k) (laid k x a l c s) ≡ true
unfolding complete rows_of list_field coord_tag
complete_kind Info x a l c s e f p = refl
complete_kind Point x a l c s (d, q, r) f p = rw (d, q, r) (rw (has_behind C2IT l _ refl, has_list C2IT c [] (p refl)))
complete_kind Multi x a l c s e f p = refl
complete_kind Feature x a l c s e f p = rw (has_list FOID x _ (f refl))
