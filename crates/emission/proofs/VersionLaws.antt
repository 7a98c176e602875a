-- Laws of the writer of the record that the workspace holds. Assumes nothing.
use Prim.Native.Nat.{ℕ, ◌+◌, ◌-◌, ◌*◌, ◌≤◌, ◌<◌, min}
use mathlib.Core.Path.{◌≡◌, sym, ap, ap₂, ◌∙◌}
use mathlib.Core.List.{List, [], ◌∷◌, ◌++◌, append-nil}
use native.Mathlib.Omega.{arith}
use borrow.Author.Tests.{eq-eqb, ne_eqb}
use lib.ListN.{length, take, drop, length-take, length-drop}
use Rattle.base.specs.Lists.{gather}
use Rattle.memory.specs.Put.{part}
use Rattle.memory.specs.Wrote.{Wrote}
use Rattle.memory.proofs.WroteLaws.{wrote_length}
use Rattle.skeleton.specs.File.{Field}
use Rattle.skeleton.specs.Emit.{sizes, entries, contents}
use Rattle.skeleton.proofs.EmitFieldsLaws.{length_contents, sizes_append}
use Rattle.forest.specs.Forest.{Forest}
use Rattle.forest.specs.Flat.{flat}
use Rattle.rules.specs.Tags.{FOID, ATTR, SPAS}
use Rattle.rules.specs.Kind.{tag_of, coded}
use Rattle.rules.specs.Written.{field_width, field_as, list_field, tree_bytes, coord_tag}
use Rattle.items.specs.Items.{its, source}
use Rattle.cells.specs.Cells.{bodies_of}
use Rattle.numbering.specs.Tuples.{Sized}
use Rattle.version.specs.Held.{foid_bodies}
use Rattle.version.specs.declared.Version.{Version}
use Rattle.writing.specs.Parts.{entry_bytes}
use Rattle.writing.proofs.PartsLaws.{wrote_as}
use Rattle.emission.specs.Bodies.{joined, inas_fields}
use Rattle.emission.specs.Fields.{ident_part, foid_part, last_fields, version_fields, list_size, list_count, ident_size, foid_size, last_size, last_count, total, ListEntry, Few, Indexed, Placed, Listed}
use Rattle.emission.specs.declared.measuring.Sizes.{Sizes}
use Rattle.emission.proofs.ListLaws.{sizes_list, field_none, contents_then, entries_then}
use Rattle.emission.proofs.IdentLaws.{length_ident}

-- ---- `put_foid`

module _ (d u : List ℕ) (v : Version) (at : ℕ) (out : List ℕ) (g : (length (foid_part d u v) ≡ foid_size v.foids) × (at + list_size (foid_size v.foids) ≤ length out)) where
  pub foid_none : v.foids ≡ 0 → Wrote at (contents (list_field FOID (foid_part d u v))) out at out
  foid_none z = field_none FOID (foid_part d u v) at out (g.0 ∙ no_foid z)
    where
      no_foid : v.foids ≡ 0 → foid_size v.foids ≡ 0
      no_foid h = unfold foid_size in let e = eq-eqb v.foids 0 h in rw e

  module _ (s : List ℕ) (q : s ≡ source v.slice d u) (z : v.foids ≡ 0 → ⊥) where
    eight : foid_size v.foids ≡ 8
    unfolding foid_size
    eight = let e = ne_eqb v.foids 0 z in rw e

    pub foid_here : part v.foid 8 s ≡ foid_part d u v
    unfolding foid_part joined gather foid_bodies part
    foid_here =
        let e = ne_eqb v.foids 0 z in
        let n : v.foid + 8 - v.foid ≡ 8 = omega arith in
        rw (e, q, n) (sym (append-nil (take 8 (drop v.foid (source v.slice d u)))))

    pub foid_room : (v.foid + 8 ≤ length s) × (at + list_size 8 ≤ length out)
    unfolding part
    foid_room =
        let l : min 8 (length s - v.foid) ≡ 8 =
        sym (length-take 8 (drop v.foid s) ∙ ap (min 8) (length-drop v.foid s)) ∙ ap length foid_here ∙ g.0 ∙ eight in
        let r : at + list_size 8 ≤ length out = rw eight at g.1 in
        (omega arith, r)

    pub foid_some : (p : ℕ) (o : List ℕ) → (p ≡ at + list_size 8) × ((tag : ℕ) → Wrote at (contents (list_field tag (part v.foid 8 s))) out p o)
        → Wrote at (contents (list_field FOID (foid_part d u v))) out p o
    foid_some p o w = wrote_as (ap (λ (b : List ℕ). contents (list_field FOID b)) foid_here) (w.1 FOID)

pub source_old : (d u : List ℕ) (x : ℕ) → x ≡ 0 → d ≡ source x d u
unfolding source
source_old d u x z = let e = eq-eqb x 0 z in rw e

pub source_new : (d u : List ℕ) (x : ℕ) → (x ≡ 0 → ⊥) → u ≡ source x d u
unfolding source
source_new d u x z = let e = ne_eqb x 0 z in rw e

-- ---- `put_last`

module _ (d u list inas spas : List ℕ) (v : Version) (at : ℕ) (out : List ℕ)
    (g : (Few v × (7 * v.inas ≤ length inas) × Placed d u list spas v) × (at + last_size v (sizes (inas_fields (bodies_of d u inas v.inas))) ≤ length out)) where
  last_all : at + sizes (inas_fields (bodies_of d u inas v.inas)) + list_size (8 * v.coord) + list_size (15 * v.spas) ≤ length out
  unfolding last_size
  last_all = omega (arith, g.1)

  pub last_inas : (7 * v.inas ≤ length inas) × (at + sizes (inas_fields (bodies_of d u inas v.inas)) ≤ length out)
  last_inas = (g.0.1, omega (arith, last_all))

  module _ (p₁ : ℕ) (o₁ : List ℕ) (w₁ : Wrote at (contents (inas_fields (bodies_of d u inas v.inas))) out p₁ o₁) where
    first_next : p₁ ≡ at + sizes (inas_fields (bodies_of d u inas v.inas))
    first_next = w₁.next ∙ ap (λ (n : ℕ). at + n) (length_contents (inas_fields (bodies_of d u inas v.inas)))

    pub last_coord : (0 + 8 * v.coord ≤ length list) × (p₁ + list_size (8 * v.coord) ≤ length o₁)
    last_coord = (omega (arith, g.0.2.coord_room), omega (arith, last_all, first_next, wrote_length w₁))

    module _ (p₂ : ℕ) (o₂ : List ℕ)
        (w₂ : (p₂ ≡ p₁ + list_size (8 * v.coord)) × ((tag : ℕ) → Wrote p₁ (contents (list_field tag (part 0 (8 * v.coord) list))) o₁ p₂ o₂)) where
      pub last_spas : (7 * v.spas ≤ length spas) × (length (joined (bodies_of d u spas v.spas)) ≡ 15 * v.spas) × (p₂ + list_size (15 * v.spas) ≤ length o₂)
      last_spas = (g.0.2.spas_room, g.0.2.spas_long, omega (arith, last_all, first_next, wrote_length w₁, w₂.0, wrote_length (w₂.1 0)))

      pub last_written : (p₃ : ℕ) (o₃ : List ℕ) → Wrote p₂ (contents (list_field SPAS (joined (bodies_of d u spas v.spas)))) o₂ p₃ o₃
          → Wrote at (contents (last_fields d u inas v (part 0 (8 * v.coord) list) (joined (bodies_of d u spas v.spas)))) out p₃ o₃
      unfolding last_fields
      last_written p₃ o₃ w₃ = contents_then _ _ w₃ (contents_then _ _ (w₂.1 (coord_tag v.kind)) w₁)

-- ---- `put_contents`

module _ (d u list inas spas : List ℕ) (v : Version) (m : Sizes) (at : ℕ) (out : List ℕ)
    (g : (Indexed d u inas v m × Placed d u list spas v × Listed d u list v m) × (at + (total v m).bytes ≤ length out)) where
  contents_all : at + (ident_size (coded v.kind) + 1) + list_size (foid_size v.foids) + list_size m.attr + last_size v m.inas ≤ length out
  unfolding total
  contents_all = omega (arith, g.1)

  pub contents_first : at + ident_size (coded v.kind) + 1 ≤ length out
  contents_first = omega (arith, contents_all)

  module _ (p₁ : ℕ) (o₁ : List ℕ) (w₁ : (p₁ ≡ at + ident_size (coded v.kind) + 1) × Wrote at (contents (field_as (tag_of v.kind) (ident_part v) ∷ [])) out p₁ o₁) where
    pub contents_foid : (length (foid_part d u v) ≡ foid_size v.foids) × (p₁ + list_size (foid_size v.foids) ≤ length o₁)
    contents_foid = (g.0.0.foid_long, omega (arith, contents_all, w₁.0, wrote_length w₁.1))

    module _ (p₂ : ℕ) (o₂ : List ℕ) (w₂ : Wrote p₁ (contents (list_field FOID (foid_part d u v))) o₁ p₂ o₂) where
      foid_next : p₂ ≡ p₁ + list_size (foid_size v.foids)
      foid_next =
          w₂.next ∙ ap (λ (n : ℕ). p₁ + n) (length_contents (list_field FOID (foid_part d u v)) ∙ sizes_list FOID (foid_part d u v) ∙ ap list_size g.0.0.foid_long)

      pub contents_attributes : ((8 * v.attr ≤ length list) × (length list < 524288) × (length d ≤ 16777216) × (length u ≤ 16777216))
          × (Sized d u list v.attr m.attr × (p₂ + list_size m.attr ≤ length o₂))
      contents_attributes = (
        (g.0.2.attr_room, g.0.2.short, g.0.2.old, g.0.2.new),
        (g.0.2.attr_is, omega (arith, contents_all, w₁.0, wrote_length w₁.1, foid_next, wrote_length w₂)),
      )

      module _ (p₃ : ℕ) (o₃ : List ℕ)
          (w₃ : (p₃ ≡ p₂ + list_size m.attr) × ((f : Forest) → its d u list 0 v.attr ≡ flat 0 f → Wrote p₂ (contents (list_field ATTR (tree_bytes f))) o₂ p₃ o₃)) where
        pub contents_last : length o₃ ≡ length o₂ → (Few v × (7 * v.inas ≤ length inas) × Placed d u list spas v)
            × (p₃ + last_size v (sizes (inas_fields (bodies_of d u inas v.inas))) ≤ length o₃)
        contents_last l = (
          (g.0.0.few, g.0.0.inas_room, g.0.1),
          omega (arith, contents_all, w₁.0, wrote_length w₁.1, foid_next, wrote_length w₂, w₃.0, l, ap (last_size v) g.0.0.inas_is),
        )

        pub contents_written : (c s : List ℕ) (p₄ : ℕ) (o₄ : List ℕ) → Wrote p₃ (contents (last_fields d u inas v c s)) o₃ p₄ o₄
            → (f : Forest) → its d u list 0 v.attr ≡ flat 0 f → Wrote at (contents (version_fields d u inas v (tree_bytes f) c s)) out p₄ o₄
        unfolding version_fields
        contents_written c s p₄ o₄ w₄ f h = contents_then _ _ w₄ (contents_then _ _ (w₃.1 f h) (contents_then _ _ w₂ w₁.1))

-- ---- `put_last_entries`

module _ (d u inas : List ℕ) (v : Version) (m : Sizes) (at pos : ℕ) (out : List ℕ)
    (g : Indexed d u inas v m × ((pos ≤ 281474976710656) × (at + 14 * last_count v ≤ length out))) where
  entries_all : at + 14 * v.inas + 14 * list_count (8 * v.coord) + 14 * list_count (15 * v.spas) ≤ length out
  unfolding last_count
  entries_all = omega (arith, g.1.1)

  pub entries_inas : (7 * v.inas ≤ length inas) × (length inas ≤ 400000) × (pos ≤ 281474976710656) × (at + 14 * v.inas ≤ length out)
  entries_inas = (g.0.inas_room, g.0.inas_short, g.1.0, omega (arith, entries_all))

  module _ (p₁ : ℕ) (o₁ : List ℕ)
      (w₁ : (p₁ ≡ at + 14 * v.inas) × Wrote at (entries field_width field_width pos (inas_fields (bodies_of d u inas v.inas))) out p₁ o₁) where
    pub entries_coord : (8 * v.coord ≤ 281474976710656) × (p₁ + 14 * list_count (8 * v.coord) ≤ length o₁)
    entries_coord = (omega (arith, g.0.few.coord), omega (arith, entries_all, w₁.0, wrote_length w₁.1))

    module _ (tag p₂ : ℕ) (o₂ : List ℕ) (t : tag ≡ coord_tag v.kind) (w₂ : ListEntry tag (8 * v.coord) (pos + m.inas) p₁ o₁ p₂ o₂) where
      pub entries_spas : length o₂ ≡ length o₁ → (15 * v.spas ≤ 281474976710656) × (p₂ + 14 * list_count (15 * v.spas) ≤ length o₂)
      entries_spas l = (omega (arith, g.0.few.spas), omega (arith, entries_all, w₁.0, wrote_length w₁.1, w₂.next, l))

      module _ (n p₃ : ℕ) (o₃ : List ℕ) (e : (n ≡ list_size (8 * v.coord)) × (n ≤ 8 * v.coord + 1))
          (w₃ : ListEntry SPAS (15 * v.spas) (pos + m.inas + n) p₂ o₂ p₃ o₃) where
        entries_next : p₃ ≡ at + 14 * last_count v
        unfolding last_count
        entries_next = omega (arith, w₁.0, w₂.next, w₃.next)

        entries_fields : (c s : List ℕ) → length c ≡ 8 * v.coord → length s ≡ 15 * v.spas
            → Wrote at (entries field_width field_width pos (last_fields d u inas v c s)) out p₃ o₃
        unfolding last_fields
        entries_fields c s ec es =
            let i = inas_fields (bodies_of d u inas v.inas) in
            let f = list_field (coord_tag v.kind) c in
            let q : Wrote p₁ (entries field_width field_width (pos + m.inas) f) o₁ p₂ o₂ = rw t at (w₂.is c ec) in
            let z : sizes f ≡ n = sizes_list (coord_tag v.kind) c ∙ ap list_size ec ∙ sym e.0 in
            entries_then pos (pos + m.inas + n) (i ++ f) (list_field SPAS s) (omega (arith, g.0.inas_is, sizes_append i f)) (w₃.is s es)
            (entries_then pos (pos + m.inas) i f (omega (arith, g.0.inas_is)) q w₁.1)

        pub entries_last : (p₃ ≡ at + 14 * last_count v)
            × ((c s : List ℕ) → length c ≡ 8 * v.coord → length s ≡ 15 * v.spas → Wrote at (entries field_width field_width pos (last_fields d u inas v c s)) out p₃ o₃)
        entries_last = (entries_next, entries_fields)

-- ---- `put_directory`

module _ (d u inas : List ℕ) (v : Version) (m : Sizes) (at : ℕ) (out : List ℕ) (g : Indexed d u inas v m × (at + 14 * (total v m).fields ≤ length out)) where
  index_all : at + 14 + 14 * list_count (foid_size v.foids) + 14 * list_count m.attr + 14 * last_count v ≤ length out
  unfolding total
  index_all = omega (arith, g.1)

  pub index_first : at + 14 ≤ length out
  index_first = omega (arith, index_all)

  module _ (i tag p₁ : ℕ) (o₁ : List ℕ) (n : ℕ) (ei : (i ≡ ident_size (coded v.kind)) × (i ≤ 10)) (et : tag ≡ tag_of v.kind)
      (w₁ : (p₁ ≡ at + 14) × Wrote at (entry_bytes tag (i + 1) 0) out p₁ o₁) (en : (n ≡ foid_size v.foids) × (n ≤ 8)) where
    -- the identifier's entry
    first_entry : Wrote at (entries field_width field_width 0 (field_as (tag_of v.kind) (ident_part v) ∷ [])) out p₁ o₁
    unfolding entries entry_bytes
    first_entry =
        wrote_as (ap₂ (λ (x y : ℕ). entry_bytes x (y + 1) 0) et (ei.0 ∙ sym (length_ident v))
        ∙ sym (append-nil (entry_bytes (tag_of v.kind) (length (ident_part v) + 1) 0))) w₁.1

    pub index_foid : (n ≤ 281474976710656) × (p₁ + 14 * list_count n ≤ length o₁)
    index_foid = (omega (arith, en.1), omega (arith, index_all, w₁.0, wrote_length w₁.1, ap list_count en.0))

    module _ (p₂ : ℕ) (o₂ : List ℕ) (w₂ : ListEntry FOID n (i + 1) p₁ o₁ p₂ o₂) (l₂ : length o₂ ≡ length o₁) where
      pub index_attr : (m.attr ≤ 281474976710656) × (p₂ + 14 * list_count m.attr ≤ length o₂)
      index_attr = (
        omega (arith, g.0.attr_small),
        omega (arith, index_all, w₁.0, wrote_length w₁.1, ap list_count en.0, w₂.next, l₂),
      )

      module _ (a p₃ : ℕ) (o₃ : List ℕ) (b : ℕ) (ea : (a ≡ list_size n) × (a ≤ n + 1)) (w₃ : ListEntry ATTR m.attr (i + 1 + a) p₂ o₂ p₃ o₃)
          (eb : (b ≡ list_size m.attr) × (b ≤ m.attr + 1)) where
        pub index_last : length o₃ ≡ length o₂ → Indexed d u inas v m × ((i + 1 + a + b ≤ 281474976710656) × (p₃ + 14 * last_count v ≤ length o₃))
        index_last l₃ = (
          g.0,
          (
            omega (arith, ei.1, en.1, ea.1, eb.1, g.0.attr_small),
            omega (arith, index_all, w₁.0, wrote_length w₁.1, ap list_count en.0, w₂.next, l₂, w₃.next, l₃),
          ),
        )

        module _ (p₄ : ℕ) (o₄ : List ℕ)
            (w₄ : (p₄ ≡ p₃ + 14 * last_count v)
            × ((c s : List ℕ) → length c ≡ 8 * v.coord → length s ≡ 15 * v.spas
            → Wrote p₃ (entries field_width field_width (i + 1 + a + b) (last_fields d u inas v c s)) o₃ p₄ o₄)) where
          index_next : p₄ ≡ at + 14 * (total v m).fields
          unfolding total
          index_next = omega (arith, w₁.0, ap list_count en.0, w₂.next, w₃.next, w₄.0)

          index_fields : (t c s : List ℕ) → length t ≡ m.attr → length c ≡ 8 * v.coord → length s ≡ 15 * v.spas
              → Wrote at (entries field_width field_width 0 (version_fields d u inas v t c s)) out p₄ o₄
          unfolding version_fields sizes
          index_fields t c s lt lc ls =
              let x : List Field = field_as (tag_of v.kind) (ident_part v) ∷ [] in
              let y = list_field FOID (foid_part d u v) in
              let z = list_field ATTR t in
              let k : sizes x ≡ i + 1 = omega (arith, length_ident v, ei.0) in
              let ly : length (foid_part d u v) ≡ n = g.0.foid_long ∙ sym en.0 in
              let sy : sizes y ≡ a = sizes_list FOID (foid_part d u v) ∙ ap list_size ly ∙ sym ea.0 in
              let sz : sizes z ≡ b = sizes_list ATTR t ∙ ap list_size lt ∙ sym eb.0 in
              entries_then 0 (i + 1 + a + b) (x ++ y ++ z) (last_fields d u inas v c s) (omega (arith, sizes_append (x ++ y) z, sizes_append x y)) (w₄.1 c s lc ls)
              (entries_then 0 (i + 1 + a) (x ++ y) z (omega (arith, sizes_append x y)) (w₃.is t lt)
              (entries_then 0 (i + 1) x y (omega arith) (w₂.is (foid_part d u v) ly) first_entry))

          pub index_written : (p₄ ≡ at + 14 * (total v m).fields)
              × ((t c s : List ℕ) → length t ≡ m.attr → length c ≡ 8 * v.coord → length s ≡ 15 * v.spas
              → Wrote at (entries field_width field_width 0 (version_fields d u inas v t c s)) out p₄ o₄)
          index_written = (index_next, index_fields)
