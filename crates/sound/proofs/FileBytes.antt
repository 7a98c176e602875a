-- The fields of a file that is made of bytes are made of bytes, and can be carried. Assumes nothing.
use Prim.Native.Nat.{ℕ, ◌+◌, ◌-◌, ◌<◌}
use mathlib.Core.Path.{◌≡◌, refl}
use mathlib.Core.List.{List, [], ◌∷◌}
use native.Mathlib.Omega.{arith}
use borrow.Author.Tests.{ltb-true, ltb-false}
use lib.ListN.{length}
use lib.Dec.{eqb, ltb}
use Rattle.std.specs.Prelude.{Option, Some, None, Result, Ok, Err}
use Rattle.base.specs.Walk.{Got}
use Rattle.base.specs.Lists.{Each}
use Rattle.base.proofs.ChoiceLaws.{by_test}
use Rattle.base.proofs.WalkLaws.{by_measure}
use Rattle.base.proofs.EachLaws.{each_nil}
use Rattle.skeleton.specs.File.{Field, records_from, records_of}
use Rattle.skeleton.specs.Place.{between, place_at, fields_at}
use Rattle.skeleton.specs.Record.{record_at}
use Rattle.skeleton.specs.Writable.{AllTagged}
use Rattle.skeleton.specs.declared.leader.Head.{Head}
use Rattle.skeleton.specs.declared.leader.Broken.{Broken}
use Rattle.skeleton.specs.declared.directory.Shape.{Shape}
use Rattle.skeleton.specs.declared.place.Place.{Place}
use Rattle.skeleton.proofs.PlaceLaws.{held, fields_more, fields_done}
use Rattle.skeleton.proofs.RecordLaws.{right}
use Rattle.skeleton.proofs.FileLaws.{records_over, records_refused, records_more}
use Rattle.skeleton.proofs.ReadLaws.{bytes_between, file_read}
use Rattle.fields.specs.Valid.{Bytes}
use Rattle.sequence.proofs.Tests.{by_bool}
use Rattle.sound.specs.Sound.{Carried}

-- a record whose bodies are bytes
abbrev pub Bodies : List Field → Type 0
Bodies fs = Each (λ f. Bytes f.body) fs

-- the field at a place, and then those behind it
fields_at_lem : (r : List ℕ) (h : Shape) → Bytes r → (p : ℕ) (e : Option Place) → e ≡ place_at r h p
    → ((q : ℕ) → length r - q < length r - p → Bodies (fields_at r h q)) → Bodies (fields_at r h p)
unfolding Each
fields_at_lem r h bytes p (Some d) en later =
    let k = held r h p _ en d refl in
    rw (fields_more r h p _ en d refl) (bytes_between r d.start d.end bytes, later d.next (omega arith))
fields_at_lem r h bytes p None en later = rw (fields_done r h p _ en refl) tt

-- all fields of a record
pub fields_bytes : (r : List ℕ) (h : Shape) → Bytes r → (p : ℕ) → Bodies (fields_at r h p)
fields_bytes r h bytes p =
    by_measure (λ q. length r - q) (λ q. Bodies (fields_at r h q)) (λ q later. fields_at_lem r h bytes q (place_at r h q) refl later) p

-- the record at a place, and then those from its end on
records_at : (f : List ℕ) → Bytes f → (at : ℕ) → at < length f → (h : Result Head Broken) → h ≡ record_at f at
    → ((q : ℕ) → length f - q < length f - at → Each Bodies (records_from f q).items) → Each Bodies (records_from f at).items
unfolding Each
records_at f bytes at l (Ok d) e later =
    let k = right f at _ e d refl in
    rw (records_more f at l _ e d refl)
    (fields_bytes (between f at (at + d.len)) d.shape (bytes_between f at (at + d.len) bytes) 24, later (at + d.len) (omega arith))
records_at f bytes at l (Err x) e later = rw (records_refused f at l _ e x refl) tt

-- all records from a place on
pub records_bytes : (f : List ℕ) → Bytes f → (at : ℕ) → Each Bodies (records_from f at).items
records_bytes f bytes at =
    by_measure (λ q. length f - q) (λ q. Each Bodies (records_from f q).items)
    (λ q later. by_bool (ltb q (length f))
    (λ h. records_at f bytes q (ltb-true q (length f) h) (record_at f q) refl later)
    (λ h. rw (records_over f q (ltb-false q (length f) h)) (each_nil Bodies))) at

-- all records of a file
pub file_bytes : (f : List ℕ) → Bytes f → Each Bodies (records_of f).items
unfolding records_of
file_bytes f bytes = by_test (λ (g : Got (List Field)). Each Bodies g.items) (eqb (length f) 0) _ _ (λ _. each_nil Bodies) (λ _. records_bytes f bytes 0)

-- records with fields, tags that can be written and bodies of bytes
carried_all : (rs : List (List Field)) → AllTagged rs → Each Bodies rs → Each Carried rs
unfolding Each
carried_all [] a b = tt
carried_all (fs ∷ rs) a b = (record { some = a.0; tags = a.1; bodies = b.0 }, carried_all rs a.2 b.1)

-- each record of a file can be carried
pub file_carried : (f : List ℕ) → Bytes f → Each Carried (records_of f).items
file_carried f bytes = carried_all (records_of f).items (file_read f bytes) (file_bytes f bytes)
