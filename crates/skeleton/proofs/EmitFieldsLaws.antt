-- The fields of a written record are read back. Assumes nothing.
use mathlib.Core.Path.{◌≡◌, refl, sym, ap, ◌∙◌}
use mathlib.Core.List.{List, [], ◌∷◌, ◌++◌, append_assoc, append-nil}
use mathlib.Core.Bool.{Bool, true, false}
use Prim.Native.Nat.{ℕ, ◌+◌, ◌-◌, ◌*◌, ◌/◌, ◌%◌, ◌^◌, ◌≤◌, ◌<◌}
use native.Mathlib.Nat.{add-zero, add_assoc, div-div-eq-div-mul, div-add-mod'}
use native.Mathlib.Omega.{arith}
use borrow.Author.Tests.{le-leb, lt-leb, lt-ltb, le-ltb, eq-eqb, ne_eqb}
use lib.ListN.{length, get_or, take, length-append}
use lib.Seq.{take_at, get_or-append_seam}
use Rattle.base.specs.Lists.{each}
use Rattle.base.specs.Walk.{Got, before}
use Rattle.skeleton.specs.Digits.{number_at, in_digits}
use Rattle.skeleton.specs.Directory.{Body, tag_at, entry_in, entry_at, lies, ended, fields_from, fields_of}
use Rattle.skeleton.specs.File.{Field, cut_out}
use Rattle.skeleton.specs.Emit.{tag_bytes, size, sizes, entry, entries, contents, base_of, length_of, leading, emit}
use Rattle.skeleton.specs.Writable.{TagFits, TagsFit, PlacesFit, Writable}
use Rattle.std.specs.Prelude.{Some}
use Rattle.skeleton.specs.declared.directory.Entry.TheVariants.{Field as FieldAt, End}
use Rattle.skeleton.proofs.DirectoryLaws.{fields_step}
use Rattle.skeleton.proofs.EmitDigitsLaws.{length_digits}
use Rattle.skeleton.proofs.OffsetLaws.{byte_off, drop_off, length_off, number_off}

-- ---- lengths

-- so many bytes are the entries
pub length_entries : (a b pos : ℕ) (fs : List Field) → length (entries a b pos fs) ≡ (4 + a + b) * length fs
unfolding entries
length_entries a b pos [] = omega arith
length_entries a b pos (f ∷ fs) = simp (length-append, length_digits, length_entries a b (pos + size f) fs) (omega arith)

-- and so many the fields
pub length_contents : (fs : List Field) → length (contents fs) ≡ sizes fs
unfolding contents sizes
length_contents [] = refl
length_contents (f ∷ fs) = simp (length-append, length_contents fs) (omega arith)

-- the leader has 24 bytes
pub length_leading : (a b : ℕ) (first : Bool) (len base : ℕ) → length (leading a b first len base) ≡ 24
unfolding leading
length_leading a b true len base = simp (length-append, length_digits)
length_leading a b false len base = simp (length-append, length_digits)

-- a written record is as long as it says
pub length_emit : (a b : ℕ) (first : Bool) (fs : List Field) → length (emit a b first fs) ≡ length_of a b fs
unfolding emit
length_emit a b first fs = simp (length-append, length_leading, length_entries, length_contents) (omega arith)

-- ---- one entry

-- the four bytes of a tag, put together again
tag_back : (t : ℕ) → t < 2 ^ 32 → ((t / 16777216 % 256 * 256 + t / 65536 % 256) * 256 + t / 256 % 256) * 256 + t % 256 ≡ t
tag_back t h =
    let first : t / 16777216 % 256 ≡ t / 65536 / 256 = omega (arith, div-div-eq-div-mul t 65536 256) in
    let second : t / 65536 ≡ t / 256 / 256 = sym (div-div-eq-div-mul t 256 256) in
    rw (first, div-add-mod' (t / 65536) 256, second, div-add-mod' (t / 256) 256, div-add-mod' t 256)

-- an entry that was written at p
module _ (a b : ℕ) (r pre more : List ℕ) (f : Field) (pos p : ℕ) (e : r ≡ pre ++ (entry a b f pos ++ more)) (l : length pre ≡ p) where
  long : length r ≡ p + (4 + a + b + length more)
  long = length_off r pre _ p e l ∙ ap (λ (n : ℕ). p + n) (simp (length-append, length_digits) (omega arith))

  first_byte : get_or r p 0 ≡ f.tag / 16777216 % 256
  first_byte = rw add-zero at (byte_off r pre _ p e l 0)

  tag_read : f.tag < 2 ^ 32 → tag_at r p ≡ f.tag
  unfolding tag_at
  tag_read h = simp (first_byte, byte_off r pre _ p e l 1, byte_off r pre _ p e l 2, byte_off r pre _ p e l 3) (tag_back f.tag h)

  size_read : size f < 10 ^ a → number_at r (p + 4) a ≡ Some (size f)
  size_read = number_off r (pre ++ tag_bytes f.tag) (in_digits b pos ++ more) (p + 4) a (size f) (e ∙ simp append_assoc) (simp (length-append, l))

  pos_read : pos < 10 ^ b → number_at r (p + 4 + a) b ≡ Some pos
  pos_read =
      number_off r (pre ++ (tag_bytes f.tag ++ in_digits a (size f))) more (p + 4 + a) b pos (e ∙ simp append_assoc)
      (simp (length-append, length_digits, l) (omega arith))

  entry_read : TagFits f.tag → size f < 10 ^ a → pos < 10 ^ b → entry_at r a b p ≡ FieldAt f.tag pos (size f) (p + (4 + a + b))
  unfolding entry_at entry_in
  entry_read t h g =
      simp (
        lt-leb (length r) p (omega (arith, long)),
        first_byte,
        ne_eqb (f.tag / 16777216 % 256) 30 (λ z. t.1 (omega arith)),
        le-ltb (length r - p) (4 + a + b) (omega (arith, long)),
        size_read h,
        pos_read g,
        tag_read t.0,
      )

-- the end of the directory, where the fields fill the record
module _ (a b : ℕ) (r pre tail : List ℕ) (base p pos : ℕ) (e : r ≡ pre ++ (30 ∷ tail)) (l : length pre ≡ p) where
  end_read : entry_at r a b p ≡ End
  unfolding entry_at
  end_read =
      let n = length_off r pre (30 ∷ tail) p e l in
      simp (lt-leb (length r) p (omega arith), eq-eqb (get_or r p 0) 30 (rw add-zero at (byte_off r pre _ p e l 0)))

  ended_read : 24 < p → p + 1 ≡ base → length r ≡ base + pos → ended r base p pos ≡ true
  unfolding ended
  ended_read h g n = simp (lt-ltb 24 p h, eq-eqb (p + 1) base g, eq-eqb (base + pos) (length r) (omega arith))

-- ---- one body

last_at : (b p n : ℕ) → b + p + (n + 1) - 1 ≡ b + (p + n)
last_at b p n = omega arith

-- a body that was written at pos
module _ (r front preb more : List ℕ) (f : Field) (base pos : ℕ) (e : r ≡ front ++ (preb ++ (f.body ++ (30 ∷ more))))
    (lf : length front ≡ base) (lb : length preb ≡ pos) where
  room : length r ≡ base + (pos + (size f + length more))
  room = length_off r front _ base e lf ∙ ap (λ (n : ℕ). base + n) (simp (length-append, lb) (omega arith))

  last_byte : get_or r (base + (pos + length f.body)) 0 ≡ 30
  last_byte =
      byte_off r front _ base e lf (pos + length f.body)
      ∙ byte_off (preb ++ (f.body ++ (30 ∷ more))) preb _ pos refl lb (length f.body)
      ∙ get_or-append_seam f.body 30 more 0

  lies_read : lies r base pos pos (size f) ≡ true
  unfolding lies
  lies_read =
      simp (
        eq-eqb pos pos refl,
        ne_eqb (size f) 0 (λ z. omega arith),
        le-leb (base + pos + size f) (length r) (omega (arith, room)),
        last_at base pos (length f.body),
        last_byte,
      )

  cut_read : cut_out r (record { tag = f.tag; start = base + pos; len = size f }) ≡ f
  unfolding cut_out
  cut_read =
      let d : r ≡ (front ++ preb) ++ (f.body ++ (30 ∷ more)) = e ∙ sym (append_assoc front preb _) in
      ap (λ (s : List ℕ). record { tag = f.tag; body = s })
      (ap (take (size f - 1)) (drop_off r (front ++ preb) (f.body ++ (30 ∷ more)) (base + pos) d (simp (length-append, lf, lb)))
      ∙ take_at f.body (30 ∷ more) (size f - 1) (omega arith))

-- ---- all of them

-- the fields that a walk over r found, cut out
abbrev pub cut : List ℕ → Got Body → Got Field
cut r g = record { items = each (cut_out r) g.items; ending = g.ending }

-- the fields from p on, where pre stands before the rest of the directory, front before the bodies, and preb before the rest of the bodies
read_back : (a b : ℕ) (fs : List Field) (r pre tail front preb : List ℕ) (base p pos : ℕ) → TagsFit fs → PlacesFit a b pos fs
    → r ≡ pre ++ (entries a b pos fs ++ (30 ∷ tail)) → length pre ≡ p
    → r ≡ front ++ (preb ++ contents fs) → length front ≡ base → length preb ≡ pos
    → p + (4 + a + b) * length fs + 1 ≡ base → 24 ≤ p → 24 < p + length fs
    → cut r (fields_from r base a b p pos) ≡ record { items = fs; ending = 0 }
unfolding entries contents each
read_back a b [] r pre tail front preb base p pos ts ps e l e' lf lb n g h =
    let k : length r ≡ base + pos = length_off r front _ base e' lf ∙ ap (λ (k : ℕ). base + k) (ap length (append-nil preb) ∙ lb) in
    ap (cut r) (fields_step r base a b p pos)
    ∙ simp (end_read a b r pre tail base p pos e l, ended_read a b r pre tail base p pos e l (omega arith) (omega arith) k)
read_back a b (f ∷ fs) r pre tail front preb base p pos ts ps e l e' lf lb n g h =
    let w = entry a b f pos in
    let later = entries a b (pos + size f) fs in
    let d : r ≡ pre ++ (w ++ (later ++ (30 ∷ tail))) = e ∙ ap (λ (s : List ℕ). pre ++ s) (append_assoc w later (30 ∷ tail)) in
    ap (cut r) (fields_step r base a b p pos)
    ∙ (simp (
      entry_read a b r pre _ f pos p d l ts.0 ps.0 ps.1,
      lies_read r front preb (contents fs) f base pos e' lf lb,
      cut_read r front preb (contents fs) f base pos e' lf lb,
    ))
    ∙ ap (before f)
    (read_back a b fs r (pre ++ w) tail front (preb ++ (f.body ++ (30 ∷ []))) base (p + (4 + a + b)) (pos + size f) ts.1 ps.2
    (d ∙ sym (append_assoc pre w (later ++ (30 ∷ tail))))
    (simp (length-append, length_digits, l) (omega arith))
    (e' ∙ simp append_assoc)
    lf (simp (length-append, lb) (omega arith)) (omega arith) (omega arith) (omega arith))

-- the fields of a written record are those that were written
pub fields_back : (a b : ℕ) (first : Bool) (fs : List Field) → Writable a b fs
    → cut (emit a b first fs) (fields_of (emit a b first fs) (base_of a b fs) a b) ≡ record { items = fs; ending = 0 }
unfolding emit
fields_back a b first fs w =
    let lead = leading a b first (length_of a b fs) (base_of a b fs) in
    read_back a b fs (emit a b first fs) lead (contents fs) (lead ++ (entries a b 0 fs ++ (30 ∷ []))) [] (base_of a b fs) 24 0 w.tags w.places
    refl (length_leading a b first _ _) (simp append_assoc) (simp (length-append, length_leading, length_entries) (omega arith)) refl
    (omega arith) (omega arith) (omega arith)

-- ---- fields one after the other

-- the bytes that they take
pub sizes_append : (fs gs : List Field) → sizes (fs ++ gs) ≡ sizes fs + sizes gs
unfolding sizes
sizes_append [] gs = omega arith
sizes_append (f ∷ fs) gs = let h = sizes_append fs gs in omega arith

-- their contents
pub contents_append : (fs gs : List Field) → contents (fs ++ gs) ≡ contents fs ++ contents gs
unfolding contents
contents_append [] gs = refl
contents_append (f ∷ fs) gs =
    ap (λ (l : List ℕ). f.body ++ (30 ∷ l)) (contents_append fs gs) ∙ sym (append_assoc f.body (30 ∷ contents fs) (contents gs))

-- their entries: the second begin behind the first
pub entries_append : (a b pos : ℕ) (fs gs : List Field) → entries a b pos (fs ++ gs) ≡ entries a b pos fs ++ entries a b (pos + sizes fs) gs
unfolding entries sizes
entries_append a b pos [] gs = rw add-zero
entries_append a b pos (f ∷ fs) gs =
    let w = entry a b f pos in
    let n : pos + size f + sizes fs ≡ pos + (size f + sizes fs) = add_assoc pos (size f) (sizes fs) in
    ap (λ (l : List ℕ). w ++ l) (entries_append a b (pos + size f) fs gs)
    ∙ ap (λ (k : ℕ). w ++ (entries a b (pos + size f) fs ++ entries a b k gs)) n
    ∙ sym (append_assoc w (entries a b (pos + size f) fs) (entries a b (pos + (size f + sizes fs)) gs))
