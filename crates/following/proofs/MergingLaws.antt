-- Laws of the result's general record as it is written. Assumes nothing.
use mathlib.Core.Path.{◌≡◌, refl, sym, ◌∙◌, ap}
use mathlib.Core.Bool.{Bool, true, false}
use mathlib.Core.List.{List, [], ◌∷◌, ◌++◌}
use Prim.Native.Nat.{ℕ, ◌+◌, ◌*◌, ◌^◌, ◌≤◌, ◌<◌}
use native.Mathlib.Nat.{zero-add}
use native.Mathlib.Numerals.{add-one}
use native.Mathlib.Omega.{arith}
use borrow.Author.Tests.{eq-eqb, ne_eqb}
use lib.Dec.{eqb}
use lib.ListN.{length, get_or, length-append, drop_of_length-le}
use lib.Seq.{drop-cons}
use Rattle.base.specs.Check.{pass}
use Rattle.base.specs.Choice.{pick}
use Rattle.base.specs.Lists.{gather}
use Rattle.memory.specs.Put.{put}
use Rattle.memory.specs.Wrote.{Wrote}
use Rattle.memory.proofs.WroteLaws.{wrote_none, wrote_length}
use Rattle.skeleton.specs.File.{Field}
use Rattle.skeleton.specs.Emit.{size, sizes, entries, contents}
use Rattle.skeleton.specs.Place.{fields_at}
use Rattle.skeleton.specs.Shape.{Bounded}
use Rattle.skeleton.specs.declared.directory.Shape.{Shape}
use Rattle.skeleton.proofs.EmitFieldsLaws.{length_entries, length_contents, sizes_append, contents_append}
use Rattle.rules.specs.General.{general_record}
use Rattle.rules.specs.Written.{field_width}
use Rattle.rules.specs.declared.Mode.TheVariants.{InDataset, InUpdate}
use Rattle.writing.specs.Parts.{entry_bytes}
use Rattle.writing.specs.Found.{Summed}
use Rattle.writing.proofs.WriterLaws.{put_on, put_all, length_entry}
use Rattle.following.specs.Merging.{general_parts, AtMostOne, newer_at, parts_from, merged_at, Measured, one_if, entry_if, Passing}
use Rattle.following.proofs.OnceLaws.{once_there, merged_parts}

-- ---- `one_if` and `put_entry_if`

pub if_none : (n : ℕ) → n ≡ 0 → 0 ≡ one_if n
unfolding one_if
if_none n e = simp (eq-eqb n 0 e)

pub if_one : (n : ℕ) → (n ≡ 0 → ⊥) → 1 ≡ one_if n
unfolding one_if
if_one n e = simp (ne_eqb n 0 e)

pub ruleset if_ways = (if_none, if_one)

module _ (t n pos : ℕ) where
  pub entry_none : n ≡ 0 → (at : ℕ) (o : List ℕ) → Wrote at (entry_if t n pos) o at o
  unfolding entry_if
  entry_none e at o = simp (eq-eqb n 0 e) (wrote_none at o)

  module _ (e : n ≡ 0 → ⊥) where
    pub entry_room : (at : ℕ) (o : List ℕ) → at + 14 * one_if n ≤ length o → at + 14 ≤ length o
    entry_room at o g = let k = if_one n e in omega arith

    pub entry_some : (at p : ℕ) (o o' : List ℕ) → Wrote at (entry_bytes t n pos) o p o' → Wrote at (entry_if t n pos) o p o'
    unfolding entry_if
    entry_some at p o o' w = simp (ne_eqb n 0 e) w

pub ruleset entry_ways = (entry_none, entry_room, entry_some)

-- ---- a field, and those behind it

alone_count : (t : ℕ) (fs : List Field) (n : ℕ) → Measured t fs n → length fs ≡ one_if n
unfolding sizes
alone_count t [] n m = let e : n ≡ 0 = m.size_is in if_none n e
alone_count t (f ∷ []) n m =
    let e : n ≡ length f.body + 1 + 0 = m.size_is in
    let z : n ≡ 0 → ⊥ = λ y. omega arith in
    if_one n z
alone_count t (f ∷ g ∷ fs) n m = absurd m.alone

alone_entries : (t : ℕ) (fs gs : List Field) (n pos : ℕ) → Measured t fs n
    → entries field_width field_width pos (fs ++ gs) ≡ entry_if t n pos ++ entries field_width field_width (pos + n) gs
unfolding sizes entries entry_if entry_bytes
alone_entries t [] gs n pos m =
    let e : n ≡ 0 = m.size_is in
    let z : pos ≡ pos + n = omega arith in
    simp (eq-eqb n 0 e) (ap (λ (q : ℕ). entries field_width field_width q gs) z)
alone_entries t (f ∷ []) gs n pos m =
    let e : n ≡ length f.body + 1 + 0 = m.size_is in
    let s : size f ≡ n = omega arith in
    let z : n ≡ 0 → ⊥ = λ y. omega arith in
    let u : f.tag ≡ t = m.alone in
    simp (ne_eqb n 0 z)
    (ap (λ (k : ℕ). entry_bytes f.tag k pos ++ entries field_width field_width (pos + k) gs) s
    ∙ ap (λ (v : ℕ). entry_bytes v n pos ++ entries field_width field_width (pos + n) gs) u)
alone_entries t (f ∷ g ∷ fs) gs n pos m = absurd m.alone

length_if : (t n pos : ℕ) → length (entry_if t n pos) ≡ 14 * one_if n
unfolding entry_if one_if
length_if t n pos = go (eqb n 0)
  where
    go : (b : Bool) → length (pick b [] (entry_bytes t n pos)) ≡ 14 * pick b 0 1
    go true = refl
    go false = length_entry t n pos

-- ---- tag number j

module _ (old : List ℕ) (ho : Shape) (new : List ℕ) (hn : Shape) where
  -- all of them
  pub parts_merged : general_record InUpdate (fields_at new hn 24) ≡ pass → parts_from old ho new hn 0 ≡ merged_at old ho new hn
  unfolding parts_from
  parts_merged g = merged_parts (fields_at old ho 24) (fields_at new hn 24) g

  parts_over : (j : ℕ) → 8 ≤ j → parts_from old ho new hn j ≡ []
  unfolding parts_from gather
  parts_over j h = ap (gather (newer_at old ho new hn)) (drop_of_length-le general_parts {i = j} h)

  parts_next : (j : ℕ) → j < 8 → (t : ℕ) → t ≡ get_or general_parts j 0 → parts_from old ho new hn j ≡ newer_at old ho new hn t ++ parts_from old ho new hn (j + 1)
  unfolding parts_from gather
  parts_next j h t e = rw (e, add-one) (ap (gather (newer_at old ho new hn)) (drop-cons general_parts j 0 h))

  module _ (j : ℕ) (h : j < 8) (t : ℕ) (et : t ≡ get_or general_parts j 0) (n : ℕ) (m : Measured t (newer_at old ho new hn t) n) where
    there : parts_from old ho new hn j ≡ newer_at old ho new hn t ++ parts_from old ho new hn (j + 1)
    there = parts_next j h t et

    count_there : length (parts_from old ho new hn j) ≡ one_if n + length (parts_from old ho new hn (j + 1))
    count_there =
        ap length there ∙ length-append (newer_at old ho new hn t) (parts_from old ho new hn (j + 1))
        ∙ ap (λ (k : ℕ). k + length (parts_from old ho new hn (j + 1))) (alone_count t (newer_at old ho new hn t) n m)

    size_there : sizes (parts_from old ho new hn j) ≡ n + sizes (parts_from old ho new hn (j + 1))
    size_there =
        ap sizes there ∙ sizes_append (newer_at old ho new hn t) (parts_from old ho new hn (j + 1))
        ∙ ap (λ (k : ℕ). k + sizes (parts_from old ho new hn (j + 1))) (sym m.size_is)

  module _ (g : Passing old ho new hn) (j t : ℕ) (et : t ≡ get_or general_parts j 0) where
    old_once : AtMostOne old ho t
    old_once = once_there InDataset j t (fields_at old ho 24) g.old_passed et

    new_once : AtMostOne new hn t
    new_once = once_there InUpdate j t (fields_at new hn 24) g.new_passed et

  -- tag number j stands at most once in each
  module _ (g : Passing old ho new hn) (j : ℕ) where
    pub old_once_at : AtMostOne old ho (get_or general_parts j 0)
    old_once_at = old_once g j (get_or general_parts j 0) refl

    pub new_once_at : AtMostOne new hn (get_or general_parts j 0)
    new_once_at = new_once g j (get_or general_parts j 0) refl

  pub pass_old_bounded : Passing old ho new hn → Bounded ho
  pass_old_bounded g = g.old_bounded

  pub pass_new_bounded : Passing old ho new hn → Bounded hn
  pass_new_bounded g = g.new_bounded

  pub pass_old_short : Passing old ho new hn → length old ≤ 16777216
  pass_old_short g = g.old_short

  pub pass_new_short : Passing old ho new hn → length new ≤ 16777216
  pass_new_short g = g.new_short

  -- ---- `count_parts`

  -- the loop at tag number j
  pub record CountAt (j fields bytes : ℕ) : Type 0 where
    pub count : fields + length (parts_from old ho new hn j) ≡ length (parts_from old ho new hn 0)
    pub size : bytes + sizes (parts_from old ho new hn j) ≡ sizes (parts_from old ho new hn 0)
    pub few : fields ≤ j
    pub small : bytes ≤ 16777217 * j
    pub last : j ≤ 8

  pub count_start : CountAt 0 0 0
  count_start = record { count = zero-add _; size = zero-add _; few = omega arith; small = omega arith; last = omega arith }

  module _ (j fields bytes : ℕ) (s : CountAt j fields bytes) where
    pub count_over : 8 ≤ j → Summed (parts_from old ho new hn 0) (record { fields = fields; bytes = bytes })
    unfolding sizes
    count_over h =
        let z = parts_over j h in
        let a : length (parts_from old ho new hn j) ≡ 0 = ap length z in
        let b : sizes (parts_from old ho new hn j) ≡ 0 = ap sizes z in
        let f = s.few in let m = s.small in let l = s.last in
        record { fields_are = omega (arith, s.count); bytes_are = omega (arith, s.size); few = omega arith; small = omega arith }

    module _ (h : j < 8) (t : ℕ) (et : t ≡ get_or general_parts j 0) (n : ℕ) (m : Measured t (newer_at old ho new hn t) n) where
      pub count_bytes : bytes + n < 2 ^ 64
      count_bytes = let a = s.small in let b = m.small in omega arith

      module _ (k : ℕ) (ek : k ≡ one_if n) where
        one_or_none : k ≤ 1
        unfolding one_if
        one_or_none = rw ek (go (eqb n 0))
          where
            go : (b : Bool) → pick b 0 1 ≤ 1
            go true = omega arith
            go false = omega arith

        pub count_fields : fields + k < 2 ^ 64
        count_fields = let a = s.few in let b = one_or_none in omega arith

        pub count_more : CountAt (j + 1) (fields + k) (bytes + n)
        count_more =
            let a = count_there j h t et n m in
            let b = size_there j h t et n m in
            let f = s.few in let w = s.small in let v = m.small in let o = one_or_none in
            record { count = omega (arith, s.count); size = omega (arith, s.size); few = omega arith; small = omega arith; last = omega arith }

pub ruleset count_ways = (
  old_once_at,
  new_once_at,
  pass_old_bounded,
  pass_new_bounded,
  pass_old_short,
  pass_new_short,
  count_start,
  count_over,
  count_bytes,
  count_fields,
  count_more,
  arith,
)

-- ---- `put_directory`

module _ (old : List ℕ) (ho : Shape) (new : List ℕ) (hn : Shape) where
  -- the loop at tag number j, where the next field lies at pos, and at p of the output
  pub record DirectoryAt (out₀ : List ℕ) (at : ℕ) (out : List ℕ) (j pos p : ℕ) : Type 0 where
    pub count : p + 14 * length (parts_from old ho new hn j) ≡ at + 14 * length (parts_from old ho new hn 0)
    pub size : pos + sizes (parts_from old ho new hn j) ≡ sizes (parts_from old ho new hn 0)
    pub long : length out ≡ length out₀
    pub last : j ≤ 8
    pub left : put p (entries field_width field_width pos (parts_from old ho new hn j)) out ≡ put at (entries field_width field_width 0 (parts_from old ho new hn 0)) out₀

  pub directory_start : (out : List ℕ) (at : ℕ) → DirectoryAt out at out 0 0 at
  directory_start out at = record { count = refl; size = zero-add _; long = refl; last = omega arith; left = refl }

  module _ (out₀ : List ℕ) (at : ℕ) (out : List ℕ) (j pos p : ℕ) (s : DirectoryAt out₀ at out j pos p) where
    pub directory_over : 8 ≤ j → Wrote at (entries field_width field_width 0 (parts_from old ho new hn 0)) out₀ p out
    unfolding entries
    directory_over h =
        let z = parts_over old ho new hn j h in
        let n : length (parts_from old ho new hn j) ≡ 0 = ap length z in
        put_all _ s.left (ap (entries field_width field_width pos) z)
        (omega (arith, s.count, length_entries field_width field_width 0 (parts_from old ho new hn 0)))

    module _ (h : j < 8) (t : ℕ) (et : t ≡ get_or general_parts j 0) (n : ℕ) (m : Measured t (newer_at old ho new hn t) n) where
      pub directory_room : at + 14 * length (parts_from old ho new hn 0) ≤ length out₀ → p + 14 * one_if n ≤ length out
      directory_room g = omega (arith, s.count, s.long, count_there old ho new hn j h t et n m)

      pub directory_word : sizes (parts_from old ho new hn 0) ≤ 281474993487872 → pos + n < 2 ^ 64
      directory_word g = omega (arith, s.size, size_there old ho new hn j h t et n m)

      pub directory_more : (p' : ℕ) (out' : List ℕ) → Wrote p (entry_if t n pos) out p' out' → DirectoryAt out₀ at out' (j + 1) (pos + n) p'
      directory_more p' out' w =
          record {
            count = omega (arith, s.count, count_there old ho new hn j h t et n m, w.next, length_if t n pos);
            size = omega (arith, s.size, size_there old ho new hn j h t et n m);
            long = wrote_length w ∙ s.long;
            last = omega arith;
            left = put_on (entries field_width field_width (pos + n) (parts_from old ho new hn (j + 1))) w
                ∙ ap (λ (l : List ℕ). put p l out) (sym (ap (entries field_width field_width pos) (there old ho new hn j h t et n m) ∙ alone_entries t (newer_at old ho new hn t) _ n pos m))
                ∙ s.left;
          }

pub ruleset directory_ways = (
  old_once_at,
  new_once_at,
  pass_old_bounded,
  pass_new_bounded,
  pass_old_short,
  pass_new_short,
  directory_start,
  directory_over,
  directory_room,
  directory_word,
  directory_more,
  arith,
)

-- ---- `put_fields`

module _ (old : List ℕ) (ho : Shape) (new : List ℕ) (hn : Shape) where
  -- the loop at tag number j, and at p of the output
  pub record FieldsAt (out₀ : List ℕ) (at : ℕ) (out : List ℕ) (j p : ℕ) : Type 0 where
    pub count : p + sizes (parts_from old ho new hn j) ≡ at + sizes (parts_from old ho new hn 0)
    pub long : length out ≡ length out₀
    pub last : j ≤ 8
    pub left : put p (contents (parts_from old ho new hn j)) out ≡ put at (contents (parts_from old ho new hn 0)) out₀

  pub fields_start : (out : List ℕ) (at : ℕ) → FieldsAt out at out 0 at
  fields_start out at = record { count = refl; long = refl; last = omega arith; left = refl }

  module _ (out₀ : List ℕ) (at : ℕ) (out : List ℕ) (j p : ℕ) (s : FieldsAt out₀ at out j p) where
    pub fields_over : 8 ≤ j → Wrote at (contents (parts_from old ho new hn 0)) out₀ p out
    unfolding contents sizes
    fields_over h =
        let z = parts_over old ho new hn j h in
        let n : sizes (parts_from old ho new hn j) ≡ 0 = ap sizes z in
        put_all _ s.left (ap contents z) (omega (arith, s.count, length_contents (parts_from old ho new hn 0)))

    module _ (h : j < 8) (t : ℕ) (et : t ≡ get_or general_parts j 0) where
      sizes_there : sizes (parts_from old ho new hn j) ≡ sizes (newer_at old ho new hn t) + sizes (parts_from old ho new hn (j + 1))
      sizes_there = ap sizes (parts_next old ho new hn j h t et) ∙ sizes_append (newer_at old ho new hn t) (parts_from old ho new hn (j + 1))

      pub fields_room : at + sizes (parts_from old ho new hn 0) ≤ length out₀ → p + sizes (newer_at old ho new hn t) ≤ length out
      fields_room g = omega (arith, s.count, s.long, sizes_there)

      pub fields_more : (p' : ℕ) (out' : List ℕ) → Wrote p (contents (newer_at old ho new hn t)) out p' out' → FieldsAt out₀ at out' (j + 1) p'
      fields_more p' out' w =
          record {
            count = omega (arith, s.count, sizes_there, w.next, length_contents (newer_at old ho new hn t));
            long = wrote_length w ∙ s.long;
            last = omega arith;
            left = put_on (contents (parts_from old ho new hn (j + 1))) w
                ∙ ap (λ (l : List ℕ). put p l out) (sym (ap contents (parts_next old ho new hn j h t et) ∙ contents_append (newer_at old ho new hn t) _))
                ∙ s.left;
          }

pub ruleset fields_ways = (
  old_once_at,
  new_once_at,
  pass_old_bounded,
  pass_new_bounded,
  fields_start,
  fields_over,
  fields_room,
  fields_more,
  arith,
)
