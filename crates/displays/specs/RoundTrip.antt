-- What is asked of reading and writing: what came from reading and updating is read again, the same, from its written form.
use Rattle.std.specs.Prelude.{ℕ, ◌≡◌, List}
use Rattle.fields.specs.Valid.{Bytes}
use Rattle.rules.specs.Written.{Dataset, written_bytes}
use Rattle.rules.specs.Outcome.{done}
use Rattle.rules.specs.File.{read_dataset, writable, Sent, read_update}
use Rattle.rules.specs.Update.{updated}

-- a dataset that was read from bytes and can be written, and what accepted updates, read from bytes, made of it
pub data Came : Dataset → Type 0 where
  came_read : (f : List ℕ) {d : Dataset} → Bytes f → read_dataset f ≡ done d → writable d ≡ done d → Came d
  came_updated : (g : List ℕ) (u : Sent) (d : Dataset) {r : Dataset} → Came d → Bytes g → read_update g ≡ done u → updated d u ≡ done r → Came r

-- its written form is read as that dataset
pub record RoundTrip : Type 0 where
  pub again : (d : Dataset) → Came d → read_dataset (written_bytes d) ≡ done d
