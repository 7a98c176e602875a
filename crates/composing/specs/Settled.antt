-- A dataset and an update none of whose records is refused, and whether a record stands under a key in the end.
use Rattle.std.specs.Prelude.{ℕ, ◌%◌, ◌≤◌, ◌≡◌, Bool, true, List, [], length}
use Rattle.base.specs.Lists.{Each}
use Rattle.skeleton.specs.File.{records_from}
use Rattle.rules.specs.Record.{Rec}
use Rattle.sequence.specs.Keyed.{done, Once}
use Rattle.sequence.specs.History.{judged}
use Rattle.sequence.specs.Stream.{standing}
use Rattle.updates.specs.Acts.{chart}
use Rattle.keys.specs.Bits.{flag_of}
use Rattle.keys.specs.Listed.{keys_from, listed}
use Rattle.keys.specs.Look.{Sound}
use Rattle.keys.specs.Numbered.{number_of, Ranged, Numbered}
use Rattle.keys.specs.Table.{Laid}
use Rattle.sorting.specs.Indices.{Indices}
use Rattle.sorting.specs.declared.limits.Limits.{Limits}
use Rattle.composing.specs.Acts.{Known}
use Rattle.composing.specs.Linked.{all_stand, linked}

-- what is asked is where it can be found: the dataset d from ds on, with its table and map, the update u from us on, the flags of the keys that it names, and the indices at the end of out
pub record Asks (d : List ℕ) (ds : ℕ) (t : List ℕ) (n : ℕ) (map u : List ℕ) (us : ℕ) (flags : List ℕ) (lim : Limits) (out : List ℕ) : Type 0 where
  pub laid : Laid d ds t n map
  pub sound : Sound u us
  pub room : 14000 ≤ length flags
  pub indices : Indices d ds u us lim out

-- recs are the dataset's records, and the update's act on them; the flag of a key that none of those names may be raised all the same
pub record Settled (recs : List Rec) (d : List ℕ) (ds : ℕ) (u : List ℕ) (us : ℕ) (flags : List ℕ) : Type 0 where
  pub numbered : Numbered recs (keys_from d ds)
  pub once : Once chart recs
  pub known : Each Known (records_from u us).items
  pub fine : judged chart 3 recs [] (records_from u us).items ≡ done tt
  pub flagged : (k : ℕ) → listed k (keys_from u us) ≡ true → flag_of flags (k % 111997) ≡ true

module _ (d : List ℕ) (ds : ℕ) (u : List ℕ) (us : ℕ) (flags : List ℕ) where
  -- a record stands under the key with this number in the end
  unfoldable pub Tells : ℕ → Bool → Type 0
  Tells key b = (recs : List Rec) → Settled recs d ds u us flags → (k : List ℕ) → Ranged k → number_of k ≡ key → b ≡ standing chart recs (records_from u us).items k

  -- those that these association keys name all stand
  unfoldable pub TellsAll : List (List ℕ) → Bool → Type 0
  TellsAll ks b = (recs : List Rec) → Settled recs d ds u us flags → b ≡ all_stand (standing chart recs (records_from u us).items) ks

  -- those of one list stand where those of the other do
  unfoldable pub Alike : List (List ℕ) → List (List ℕ) → Type 0
  Alike ks ls = (recs : List Rec) → Settled recs d ds u us flags
      → all_stand (standing chart recs (records_from u us).items) ks ≡ all_stand (standing chart recs (records_from u us).items) ls

  -- those that the record r names all stand
  unfoldable pub TellsOf : Rec → Bool → Type 0
  TellsOf r b = (recs : List Rec) → Settled recs d ds u us flags → b ≡ linked (standing chart recs (records_from u us).items) r
