-- Fields that were read can be written again: there are some, and their tags are of four bytes, the first of which is not 1E.
-- Assumes nothing.
use mathlib.Core.Path.{◌≡◌, refl}
use mathlib.Core.List.{List, [], ◌∷◌}
use mathlib.Core.Bool.{Bool, true, false}
use Prim.Native.Nat.{ℕ, zero, suc, ◌+◌, ◌-◌, ◌≤◌, ◌<◌}
use native.Mathlib.Omega.{arith}
use borrow.Author.Tests.{ltb-true, ltb-false}
use lib.ListN.{length, get_or, take, drop}
use lib.Seq.{get_or-drop}
use lib.Dec.{eqb, ltb}
use Rattle.base.specs.Lists.{each}
use Rattle.base.specs.Walk.{Step, Got, follow}
use Rattle.base.proofs.ChoiceLaws.{by_test}
use Rattle.base.proofs.WalkLaws.{by_measure}
use Rattle.skeleton.specs.Directory.{Body, tag_at, entry_at, lies, ended, step_by, fields_of}
use Rattle.skeleton.specs.File.{Field, cut_out, records_from, records_of}
use Rattle.skeleton.specs.Place.{between, place_at, fields_at}
use Rattle.skeleton.specs.Record.{record_at}
use Rattle.skeleton.specs.Writable.{TagFits, TagsFit, AllTagged}
use Rattle.skeleton.specs.declared.leader.Head.{Head}
use Rattle.skeleton.specs.declared.leader.Broken.{Broken}
use Rattle.std.specs.Prelude.{Option, Some, None, Result, Ok, Err}
use Rattle.skeleton.specs.declared.directory.Entry.{Entry}
use Rattle.skeleton.specs.declared.directory.Entry.TheVariants.{Field as FieldAt, End, Bad}
use Rattle.skeleton.specs.declared.directory.Shape.{Shape}
use Rattle.skeleton.specs.declared.place.Place.{Place}
use Rattle.skeleton.proofs.DirectoryLaws.{fields_step}
use Rattle.skeleton.proofs.PlaceLaws.{held, fields_more, fields_done, fields_same}
use Rattle.skeleton.proofs.RecordLaws.{right}
use Rattle.skeleton.proofs.FileLaws.{records_over, records_refused, records_more}

-- ---- tags

-- four bytes, the first of which is not 1E
tag_fits : (r : List ℕ) → ((k : ℕ) → get_or r k 0 < 256) → (p : ℕ) → (get_or r p 0 ≡ 30 → ⊥) → TagFits (tag_at r p)
unfolding tag_at
tag_fits r bytes p opens =
    let w = bytes p in
    let x = bytes (p + 1) in
    let y = bytes (p + 2) in
    let z = bytes (p + 3) in
    (omega arith, λ e. opens (omega arith))

tags_at : (r : List ℕ) (h : Shape) → ((k : ℕ) → get_or r k 0 < 256) → (p : ℕ) (e : Option Place) → e ≡ place_at r h p
    → ((q : ℕ) → length r - q < length r - p → TagsFit (fields_at r h q)) → TagsFit (fields_at r h p)
tags_at r h bytes p (Some d) en later =
    let k = held r h p _ en d refl in
    rw (fields_more r h p _ en d refl) (rw k.tag_is (tag_fits r bytes p k.opens), later d.next (omega arith))
tags_at r h bytes p None en later = rw (fields_done r h p _ en refl) tt

-- the fields of a record that is made of bytes
pub tags_read : (r : List ℕ) (h : Shape) → ((k : ℕ) → get_or r k 0 < 256) → (p : ℕ) → TagsFit (fields_at r h p)
tags_read r h bytes p =
    by_measure (λ q. length r - q) (λ q. TagsFit (fields_at r h q)) (λ q later. tags_at r h bytes q (place_at r h q) refl later) p

-- ---- there are some

each_some : {A B : Type 0} (f : A → B) (l : List A) → 0 < length l → 0 < length (each f l)
unfolding each
each_some f [] h = absurd (omega arith)
each_some f (x ∷ l) h = omega arith

-- a directory that ends where it begins is not right
first_some : (r : List ℕ) (base : ℕ) (k : ℕ × ℕ → Got Body) (e : Entry) → (follow (step_by r base 24 0 e) k).ending ≡ 0
    → 0 < length (follow (step_by r base 24 0 e) k).items
unfolding ended
first_some r base k (FieldAt tag pos len next) =
    by_test (λ (x : Step (ℕ × ℕ) Body). (follow x k).ending ≡ 0 → 0 < length (follow x k).items) (lies r base 0 pos len) _ _
    (λ _ z. omega arith) (λ _ z. absurd (omega arith))
first_some r base k End = λ z. absurd (omega arith)
first_some r base k Bad = λ z. absurd (omega arith)

-- a record whose directory is right has a field
pub fields_some : (r : List ℕ) (h : Shape) → (fields_of r h.base h.a h.b).ending ≡ 0 → 0 < length (fields_at r h 24)
fields_some r h z =
    let s = fields_step r h.base h.a h.b 24 0 in
    rw (fields_same r h z) (each_some (cut_out r) _ (rw s (first_some r h.base _ (entry_at r h.a h.b 24) (rw s at z))))

-- ---- all records of a file

take_below : (n : ℕ) (l : List ℕ) (k : ℕ) → get_or (take n l) k 0 ≤ get_or l k 0
take_below zero l k = omega arith
take_below (suc n) [] k = omega arith
take_below (suc n) (x ∷ l) zero = omega arith
take_below (suc n) (x ∷ l) (suc k) = take_below n l k

-- a part of bytes is made of bytes
pub bytes_between : (f : List ℕ) (i j : ℕ) → ((k : ℕ) → get_or f k 0 < 256) → (k : ℕ) → get_or (between f i j) k 0 < 256
bytes_between f i j bytes k = omega (arith, take_below (j - i) (drop i f) k, get_or-drop i f k 0, bytes (i + k))

-- a record, and then those from its end on
records_at : (f : List ℕ) → ((k : ℕ) → get_or f k 0 < 256) → (at : ℕ) → at < length f → (h : Result Head Broken) → h ≡ record_at f at
    → ((q : ℕ) → length f - q < length f - at → AllTagged (records_from f q).items) → AllTagged (records_from f at).items
records_at f bytes at l (Ok d) e later =
    let k = right f at _ e d refl in
    let r = between f at (at + d.len) in
    rw (records_more f at l _ e d refl)
    (fields_some r d.shape k.walked, tags_read r d.shape (bytes_between f at (at + d.len) bytes) 24, later (at + d.len) (omega arith))
records_at f bytes at l (Err x) e later = rw (records_refused f at l _ e x refl) tt

records_by : (f : List ℕ) → ((k : ℕ) → get_or f k 0 < 256) → (at : ℕ) (t : Bool) → ltb at (length f) ≡ t
    → ((q : ℕ) → length f - q < length f - at → AllTagged (records_from f q).items) → AllTagged (records_from f at).items
records_by f bytes at false e later = rw (records_over f at (ltb-false at (length f) e)) tt
records_by f bytes at true e later = records_at f bytes at (ltb-true at (length f) e) (record_at f at) refl later

-- the records of a file that is made of bytes have fields with tags that can be written
pub records_read : (f : List ℕ) → ((k : ℕ) → get_or f k 0 < 256) → (at : ℕ) → AllTagged (records_from f at).items
records_read f bytes at =
    by_measure (λ q. length f - q) (λ q. AllTagged (records_from f q).items) (λ q later. records_by f bytes q (ltb q (length f)) refl later) at

pub file_read : (f : List ℕ) → ((k : ℕ) → get_or f k 0 < 256) → AllTagged (records_of f).items
unfolding records_of
file_read f bytes = by_test (λ (g : Got (List Field)). AllTagged g.items) (eqb (length f) 0) _ _ (λ _. tt) (λ _. records_read f bytes 0)

-- ---- there are no more records than bytes

abbrev Few : List ℕ → ℕ → Type 0
Few f at = length (records_from f at).items ≤ length f - at

-- a record, and then those from its end on
few_at : (f : List ℕ) (at : ℕ) → at < length f → (h : Result Head Broken) → h ≡ record_at f at → ((q : ℕ) → length f - q < length f - at → Few f q) → Few f at
few_at f at l (Ok d) e later =
    let k = right f at _ e d refl in
    let n = later (at + d.len) (omega arith) in
    rw (records_more f at l _ e d refl) (omega arith)
few_at f at l (Err x) e later = rw (records_refused f at l _ e x refl) (omega arith)

few_by : (f : List ℕ) (at : ℕ) (t : Bool) → ltb at (length f) ≡ t → ((q : ℕ) → length f - q < length f - at → Few f q) → Few f at
few_by f at false e later = rw (records_over f at (ltb-false at (length f) e)) (omega arith)
few_by f at true e later = few_at f at (ltb-true at (length f) e) (record_at f at) refl later

pub few_records : (f : List ℕ) (at : ℕ) → length (records_from f at).items ≤ length f - at
few_records f at = by_measure (λ q. length f - q) (Few f) (λ q later. few_by f q (ltb q (length f)) refl later) at
