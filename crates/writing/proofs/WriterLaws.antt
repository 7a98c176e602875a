-- Laws of the loops that write a record's directory and its fields. Assumes nothing.
use Prim.Native.Nat.{ℕ, ◌+◌, ◌-◌, ◌*◌, ◌^◌, ◌≤◌, ◌<◌}
use mathlib.Core.Path.{◌≡◌, refl, sym, ap, ap₂, ◌∙◌}
use mathlib.Core.Bool.{Bool, true, false, not}
use mathlib.Core.List.{List, [], ◌∷◌, ◌++◌, append_assoc}
use native.Mathlib.Nat.{zero-add}
use native.Mathlib.Omega.{arith}
use borrow.Author.Tests.{not-true, not-false}
use lib.ListN.{length, length-append}
use Rattle.std.specs.Prelude.{Option, Some, None}
use Rattle.memory.specs.Put.{part, put}
use Rattle.memory.specs.Wrote.{Wrote}
use Rattle.memory.proofs.PutLaws.{put_put, put_nil}
use Rattle.memory.proofs.WroteLaws.{then, wrote_none, wrote_length}
use Rattle.skeleton.specs.File.{Field}
use Rattle.skeleton.specs.Emit.{sizes, length_of, base_of, leading, entries, contents, emit}
use Rattle.skeleton.specs.Place.{between, place_at, fields_at}
use Rattle.skeleton.specs.declared.directory.Shape.{Shape}
use Rattle.skeleton.specs.declared.place.Place.{Place}
use Rattle.skeleton.proofs.PlaceLaws.{held, place_falls, place_runs}
use Rattle.skeleton.proofs.EmitDigitsLaws.{length_digits}
use Rattle.skeleton.proofs.EmitFieldsLaws.{length_leading, length_entries, length_contents, length_emit}
use Rattle.skeleton.proofs.BetweenLaws.{length_between}
use Rattle.rules.specs.Written.{field_width, written_length}
use Rattle.writing.specs.House.{is_list}
use Rattle.writing.specs.Runs.{goes_on, run_body, more_body}
use Rattle.writing.specs.Parts.{entry_bytes}
use Rattle.writing.specs.Found.{house_at, joined_at, Found, Next, Summed}
use Rattle.writing.specs.declared.joining.Written.{Written}
use Rattle.writing.specs.declared.measuring.Sum.{Sum}
use Rattle.writing.proofs.JoiningLaws.{body_at, run_more, run_ends, run_none}
use Rattle.writing.proofs.MeasuringLaws.{nothing, found, found_falls, found_word, found_count, found_bytes, length_product, length_head, length_word}
use Rattle.writing.proofs.PartsLaws.{wrote_as}

-- ---- one write of several

-- what is left to write after a write
pub put_on : {p p' : ℕ} {xs out out' : List ℕ} (ys : List ℕ) → Wrote p xs out p' out' → put p' ys out' ≡ put p (xs ++ ys) out
put_on {p} {p'} {xs} {out} {out'} ys w = rw (w.is, w.next) (put_put p xs ys out)

-- all was written
pub put_all : {at p : ℕ} {ys out out₀ : List ℕ} (xs : List ℕ) → put p xs out ≡ put at ys out₀ → xs ≡ [] → p ≡ at + length ys → Wrote at ys out₀ p out
put_all {at} {p} {ys} {out} {out₀} xs e z n = record { next = n; is = sym (put_nil p out) ∙ ap (λ (l : List ℕ). put p l out) (sym z) ∙ e }

-- an entry is 14 bytes long
pub length_entry : (tag size pos : ℕ) → length (entry_bytes tag size pos) ≡ 14
unfolding entry_bytes
length_entry tag size pos =
    let a = length_digits 5 size in
    let b = length_digits 5 pos in
    simp length-append (omega arith)

-- ---- `put_joined`

-- the loop over bodies that join a list, at q and at p of the output
pub record JoinsAt (joins : Bool) (r : List ℕ) (h : Shape) (t from : ℕ) (out₀ : List ℕ) (at : ℕ) (out : List ℕ) (q p : ℕ) : Type 0 where
  pub listed : is_list joins t ≡ true
  pub count : p + length (run_body joins t (fields_at r h q)) ≡ at + length (run_body joins t (fields_at r h from))
  pub long : length out ≡ length out₀
  pub left : put p (run_body joins t (fields_at r h q)) out ≡ put at (run_body joins t (fields_at r h from)) out₀

pub joins_start : (joins : Bool) (r : List ℕ) (h : Shape) (t from : ℕ) (out : List ℕ) (at : ℕ) (b : Bool) → b ≡ is_list joins t → not b ≡ false
    → JoinsAt joins r h t from out at out from at
joins_start joins r h t from out at b eb y = record { listed = sym eb ∙ not-false b y; count = refl; long = refl; left = refl }

-- a field that is no list is alone
pub joins_alone : (joins : Bool) (r : List ℕ) (h : Shape) (t from : ℕ) (out : List ℕ) (at : ℕ) (b : Bool) → b ≡ is_list joins t → not b ≡ true
    → Wrote at (joined_at joins r h t from) out at out
unfolding more_body
joins_alone joins r h t from out at b eb y = let l : is_list joins t ≡ false = sym eb ∙ not-true b y in rw l (wrote_none at out)

module _ (joins : Bool) (r : List ℕ) (h : Shape) (t from : ℕ) (out₀ : List ℕ) (at : ℕ) (out : List ℕ) (q p : ℕ) (inv : JoinsAt joins r h t from out₀ at out q p) where
  -- nothing more
  joined : run_body joins t (fields_at r h q) ≡ [] → Wrote at (joined_at joins r h t from) out₀ p out
  unfolding more_body
  joined z =
      let l = inv.listed in
      let n : length (run_body joins t (fields_at r h q)) ≡ 0 = ap length z in
      let k : p ≡ at + length (run_body joins t (fields_at r h from)) = omega (arith, inv.count) in
      rw l (put_all _ inv.left z k)

  -- the room that the caller has
  room : at + length (joined_at joins r h t from) ≤ length out₀ → at + length (run_body joins t (fields_at r h from)) ≤ length out₀
  unfolding more_body
  room g = rw inv.listed at g

  module _ (e : Option Place) (en : e ≡ place_at r h q) where
    pub joins_done : e ≡ None → Wrote at (joined_at joins r h t from) out₀ p out
    joins_done x = joined (run_none joins t r h q e en x).0

    module _ (d : Place) (x : e ≡ Some d) (b : Bool) (eb : b ≡ goes_on joins t d.tag (d.end - d.start)) where
      pub joins_stop : not b ≡ true → Wrote at (joined_at joins r h t from) out₀ p out
      joins_stop y = joined (run_ends r h q e en d x joins t b eb (not-true b y)).0

      module _ (y : not b ≡ false) where
        more : run_body joins t (fields_at r h q) ≡ between r d.start d.end ++ run_body joins t (fields_at r h d.next)
        more = (run_more r h q e en d x joins t b eb (not-false b y)).0

        more_long : length (run_body joins t (fields_at r h q)) ≡ d.end - d.start + length (run_body joins t (fields_at r h d.next))
        more_long =
            ap length more ∙ length-append (between r d.start d.end) (run_body joins t (fields_at r h d.next))
            ∙ ap (λ (m : ℕ). m + length (run_body joins t (fields_at r h d.next))) (body_at r h q e en d x)

        pub joins_room : at + length (joined_at joins r h t from) ≤ length out₀ → p + (d.end - d.start) ≤ length out
        joins_room g = omega (arith, room g, inv.count, inv.long, more_long)

        pub joins_in : d.start + (d.end - d.start) ≤ length r
        joins_in = let k = held r h q e en d x in omega (arith, k.body_runs, k.body_in)

        pub joins_more : (p' : ℕ) (out' : List ℕ) → Wrote p (part d.start (d.end - d.start) r) out p' out' → JoinsAt joins r h t from out₀ at out' d.next p'
        unfolding part
        joins_more p' out' w =
            record {
              listed = inv.listed;
              count = omega (arith, inv.count, more_long, w.next, body_at r h q e en d x);
              long = wrote_length w ∙ inv.long;
              left = put_on (run_body joins t (fields_at r h d.next)) w ∙ ap (λ (l : List ℕ). put p l out) (sym more) ∙ inv.left;
            }

pub ruleset joins_turn = (joins_start, joins_alone, joins_done, joins_stop, joins_room, joins_in, joins_more, place_falls, place_runs)

-- ---- `put_directory`

-- the loop at q, where the next field lies at pos, and at p of the output
pub record DirectoryAt (joins : Bool) (r : List ℕ) (h : Shape) (out₀ : List ℕ) (at : ℕ) (out : List ℕ) (q pos p : ℕ) : Type 0 where
  pub count : p + 14 * length (house_at joins r h q) ≡ at + 14 * length (house_at joins r h 24)
  pub size : pos + sizes (house_at joins r h q) ≡ sizes (house_at joins r h 24)
  pub long : length out ≡ length out₀
  pub left : put p (entries field_width field_width pos (house_at joins r h q)) out ≡ put at (entries field_width field_width 0 (house_at joins r h 24)) out₀

pub directory_start : (joins : Bool) (r : List ℕ) (h : Shape) (out : List ℕ) (at : ℕ) → DirectoryAt joins r h out at out 24 0 at
directory_start joins r h out at = record { count = refl; size = zero-add _; long = refl; left = refl }

module _ (joins : Bool) (r : List ℕ) (h : Shape) (out₀ : List ℕ) (at : ℕ) (out : List ℕ) (q pos p : ℕ) (inv : DirectoryAt joins r h out₀ at out q pos p)
    (e : Option Written) (en : Next joins r h q e) where
  pub directory_done : e ≡ None → Wrote at (entries field_width field_width 0 (house_at joins r h 24)) out₀ p out
  unfolding entries
  directory_done x =
      let z = nothing joins r h q e en x in
      let n : length (house_at joins r h q) ≡ 0 = ap length z in
      put_all _ inv.left (ap (entries field_width field_width pos) z) (omega (arith, inv.count, length_entries field_width field_width 0 (house_at joins r h 24)))

  module _ (v : Written) (x : e ≡ Some v) where
    pub directory_room : at + 14 * length (house_at joins r h 24) ≤ length out₀ → p + 14 ≤ length out
    directory_room g = omega (arith, inv.count, inv.long, found_count joins r h q e en v x)

    pub directory_word : sizes (house_at joins r h 24) ≤ 281474993487872 → pos + (v.size + 1) < 2 ^ 64
    directory_word g = let b = found_bytes joins r h q e en v x in let s = inv.size in omega arith

    -- the entry there, and those behind it
    entries_there : entries field_width field_width pos (house_at joins r h q)
        ≡ entry_bytes v.tag (v.size + 1) pos ++ entries field_width field_width (pos + (v.size + 1)) (house_at joins r h v.after)
    unfolding entries entry_bytes
    entries_there =
        let f = found joins r h q e en v x in
        ap (entries field_width field_width pos) f.fields
        ∙ ap (λ (m : ℕ). entry_bytes v.tag (m + 1) pos ++ entries field_width field_width (pos + (m + 1)) (house_at joins r h v.after)) (sym f.size_is)

    pub directory_more : (p' : ℕ) (out' : List ℕ) → Wrote p (entry_bytes v.tag (v.size + 1) pos) out p' out'
        → DirectoryAt joins r h out₀ at out' v.after (pos + (v.size + 1)) p'
    directory_more p' out' w =
        record {
          count = omega (arith, inv.count, found_count joins r h q e en v x, w.next, length_entry v.tag (v.size + 1) pos);
          size = omega (arith, inv.size, found_bytes joins r h q e en v x);
          long = wrote_length w ∙ inv.long;
          left = put_on (entries field_width field_width (pos + (v.size + 1)) (house_at joins r h v.after)) w
              ∙ ap (λ (l : List ℕ). put p l out) (sym entries_there) ∙ inv.left;
        }

pub ruleset directory_turn = (directory_start, directory_done, directory_room, directory_word, directory_more, found_falls, found_word)

-- ---- `put_fields`

-- the loop at q, and at p of the output
pub record FieldsAt (joins : Bool) (r : List ℕ) (h : Shape) (out₀ : List ℕ) (at : ℕ) (out : List ℕ) (q p : ℕ) : Type 0 where
  pub count : p + sizes (house_at joins r h q) ≡ at + sizes (house_at joins r h 24)
  pub long : length out ≡ length out₀
  pub left : put p (contents (house_at joins r h q)) out ≡ put at (contents (house_at joins r h 24)) out₀

pub fields_start : (joins : Bool) (r : List ℕ) (h : Shape) (out : List ℕ) (at : ℕ) → FieldsAt joins r h out at out 24 at
fields_start joins r h out at = record { count = refl; long = refl; left = refl }

module _ (joins : Bool) (r : List ℕ) (h : Shape) (out₀ : List ℕ) (at : ℕ) (out : List ℕ) (q p : ℕ) (inv : FieldsAt joins r h out₀ at out q p)
    (e : Option Written) (en : Next joins r h q e) where
  pub fields_done : e ≡ None → Wrote at (contents (house_at joins r h 24)) out₀ p out
  unfolding contents sizes
  fields_done x =
      let z = nothing joins r h q e en x in
      let n : sizes (house_at joins r h q) ≡ 0 = ap sizes z in
      put_all _ inv.left (ap contents z) (omega (arith, inv.count, length_contents (house_at joins r h 24)))

  module _ (v : Written) (x : e ≡ Some v) where
    here : Found joins r h q v
    here = found joins r h q e en v x

    pub fields_runs : v.start ≤ v.end
    fields_runs = here.body_runs

    pub fields_in : v.start + (v.end - v.start) ≤ length r
    fields_in = omega (arith, here.body_runs, here.body_in)

    -- how long the parts of the field are
    part_long : length (part v.start (v.end - v.start) r) ≡ v.end - v.start
    unfolding part
    part_long = length_between r v.start v.end here.body_in

    size_long : v.size ≡ v.end - v.start + length (joined_at joins r h v.tag v.next)
    unfolding part
    size_long =
        here.size_is ∙ length-append (between r v.start v.end) (joined_at joins r h v.tag v.next) ∙ ap (λ (m : ℕ). m + length (joined_at joins r h v.tag v.next)) part_long

    room_there : at + sizes (house_at joins r h 24) ≤ length out₀ → p + (v.end - v.start) + length (joined_at joins r h v.tag v.next) + 1 ≤ length out
    room_there g = omega (arith, inv.count, inv.long, found_bytes joins r h q e en v x, size_long)

    pub first_room : at + sizes (house_at joins r h 24) ≤ length out₀ → p + (v.end - v.start) ≤ length out
    first_room g = omega (arith, room_there g)

    module _ (p₁ : ℕ) (out₁ : List ℕ) (w₁ : Wrote p (part v.start (v.end - v.start) r) out p₁ out₁) where
      pub joined_room : at + sizes (house_at joins r h 24) ≤ length out₀ → p₁ + length (joined_at joins r h v.tag v.next) ≤ length out₁
      joined_room g = omega (arith, room_there g, w₁.next, part_long, wrote_length w₁)

      module _ (p₂ : ℕ) (out₂ : List ℕ) (w₂ : Wrote p₁ (joined_at joins r h v.tag v.next) out₁ p₂ out₂) where
        pub mark_room : at + sizes (house_at joins r h 24) ≤ length out₀ → p₂ + 1 ≤ length out₂
        mark_room g = omega (arith, room_there g, w₁.next, part_long, wrote_length w₁, w₂.next, wrote_length w₂)

        -- the field there, and those behind it
        contents_there : contents (house_at joins r h q)
            ≡ ((part v.start (v.end - v.start) r ++ joined_at joins r h v.tag v.next) ++ (30 ∷ [])) ++ contents (house_at joins r h v.after)
        unfolding contents part
        contents_there =
            ap contents here.fields ∙ sym (append_assoc (between r v.start v.end ++ joined_at joins r h v.tag v.next) (30 ∷ []) (contents (house_at joins r h v.after)))

        pub fields_more : (p₃ : ℕ) (out₃ : List ℕ) → Wrote p₂ (30 ∷ []) out₂ p₃ out₃ → FieldsAt joins r h out₀ at out₃ v.after p₃
        fields_more p₃ out₃ w₃ =
            let w = then w₃ (then w₂ w₁) in
            let n : p₃ ≡ p + (v.size + 1) = omega (arith, w₁.next, part_long, w₂.next, w₃.next, size_long) in
            record {
              count = omega (arith, inv.count, n, found_bytes joins r h q e en v x);
              long = wrote_length w ∙ inv.long;
              left = put_on (contents (house_at joins r h v.after)) w ∙ ap (λ (l : List ℕ). put p l out) (sym contents_there) ∙ inv.left;
            }

pub ruleset fields_turn = (fields_start, fields_done, fields_runs, fields_in, first_room, joined_room, mark_room, fields_more, found_falls)

-- ---- `write_record`

-- the fields fs, counted in s, in a slice with room for them
module _ (fs : List Field) (s : Sum) (e : Summed fs s) where
  pub sizes_small : sizes fs ≤ 281474993487872
  sizes_small = let b = e.small in omega (arith, e.bytes_are)

  -- the whole record
  pub wrote_record : {at p₁ p₂ p₃ p₄ : ℕ} {o o₁ o₂ o₃ o₄ : List ℕ} (first : Bool)
      → Wrote at (leading field_width field_width first (25 + 14 * s.fields + s.bytes) (25 + 14 * s.fields)) o p₁ o₁
      → Wrote p₁ (entries field_width field_width 0 fs) o₁ p₂ o₂ → Wrote p₂ (30 ∷ []) o₂ p₃ o₃ → Wrote p₃ (contents fs) o₃ p₄ o₄
      → (p₄ ≡ at + written_length fs) × Wrote at (emit field_width field_width first fs) o p₄ o₄
  unfolding emit written_length
  wrote_record {at} {p₁} {p₂} {p₃} {p₄} first w₁ w₂ w₃ w₄ =
      let n : 25 + 14 * s.fields ≡ base_of field_width field_width fs = omega (arith, e.fields_are) in
      let m : 25 + 14 * s.fields + s.bytes ≡ length_of field_width field_width fs = omega (arith, e.fields_are, e.bytes_are) in
      let l = leading field_width field_width first (length_of field_width field_width fs) (base_of field_width field_width fs) in
      let w = wrote_as
      (ap₂ (λ (x y : ℕ). ((leading field_width field_width first x y ++ entries field_width field_width 0 fs) ++ (30 ∷ [])) ++ contents fs) m n
      ∙ append_assoc (l ++ entries field_width field_width 0 fs) (30 ∷ []) (contents fs)
      ∙ append_assoc l (entries field_width field_width 0 fs) (30 ∷ contents fs))
      (then w₄ (then w₃ (then w₂ w₁))) in
      (w.next ∙ ap (λ (k : ℕ). at + k) (length_emit field_width field_width first fs), w)

-- the room at each write
module _ (fs : List Field) (at : ℕ) (o : List ℕ) (g : at + written_length fs ≤ length o) where
  all : at + 25 + 14 * length fs + sizes fs ≤ length o
  unfolding written_length
  all = omega (arith, g)

  pub leader_room : at + 24 ≤ length o
  leader_room = omega (arith, all)

  module _ (first : Bool) (total base p₁ : ℕ) (o₁ : List ℕ) (w₁ : Wrote at (leading field_width field_width first total base) o p₁ o₁) where
    pub directory_room_left : p₁ + 14 * length fs ≤ length o₁
    directory_room_left = omega (arith, all, w₁.next, wrote_length w₁, length_leading field_width field_width first total base)

    module _ (p₂ : ℕ) (o₂ : List ℕ) (w₂ : Wrote p₁ (entries field_width field_width 0 fs) o₁ p₂ o₂) where
      pub mark_room_left : p₂ + 1 ≤ length o₂
      mark_room_left = omega (
        arith,
        all,
        w₁.next,
        wrote_length w₁,
        length_leading field_width field_width first total base,
        w₂.next,
        wrote_length w₂,
        length_entries field_width field_width 0 fs,
      )

      pub fields_room_left : (p₃ : ℕ) (o₃ : List ℕ) → Wrote p₂ (30 ∷ []) o₂ p₃ o₃ → p₃ + sizes fs ≤ length o₃
      fields_room_left p₃ o₃ w₃ = omega (
        arith,
        all,
        w₁.next,
        wrote_length w₁,
        length_leading field_width field_width first total base,
        w₂.next,
        wrote_length w₂,
        length_entries field_width field_width 0 fs,
        w₃.next,
        wrote_length w₃,
      )

pub ruleset record_ways = (
  length_product,
  length_head,
  length_word,
  sizes_small,
  leader_room,
  directory_room_left,
  mark_room_left,
  fields_room_left,
)
