-- A master's answer, in the words of the request: the first parcel that follows, silence exactly when none does, 27 for a wrong parcel.
use Rattle.std.specs.Prelude.{ℕ, ◌≡◌, true, false, ◌↔◌, List, ◌∷◌, ◌++◌}
use Rattle.base.specs.Lists.{Each}
use Rattle.parcels.specs.Parcel.{tells_holding}
use Rattle.parcels.specs.Holding.{follows}
use Rattle.parcels.specs.Shelf.{Placed, file_in, shelf_from, reply}
use Rattle.parcels.specs.declared.Reply.TheVariants.{Refused, Silence, Parcel}

-- none of these parcels of shelf s follows holding h
abbrev pub NoneFollows : List ℕ → List ℕ → List Placed → Type 0
NoneFollows h s xs = Each (λ x. follows h (file_in s x) ≡ false) xs

-- x is the first on the shelf that follows
pub record First (h s : List ℕ) (x : Placed) : Type 0 where
  pub before : List Placed
  pub behind : List Placed
  pub stands : (shelf_from s 0).items ≡ before ++ (x ∷ behind)
  pub none_before : NoneFollows h s before
  pub follows_it : follows h (file_in s x) ≡ true

pub record Master (h s : List ℕ) : Type 0 where
  -- the holding before the shelf
  pub wrong_holding : tells_holding h ≡ false → reply h s ≡ Refused
  -- a holding that is right is answered with the first that follows
  pub first : tells_holding h ≡ true → (x : Placed) → First h s x → reply h s ≡ Parcel x.start x.whole
  -- and with no other
  pub only : (start whole : ℕ) → reply h s ≡ Parcel start whole → First h s (record { start = start; whole = whole })
  -- where no 27 is due, with silence exactly when none does
  pub silence : tells_holding h ≡ true → (shelf_from s 0).ending ≡ 0 → (reply h s ≡ Silence) ↔ NoneFollows h s (shelf_from s 0).items
  -- a parcel that is wrong is 27, where none before it follows
  pub wrong_shelf : (shelf_from s 0).ending ≡ 27 → NoneFollows h s (shelf_from s 0).items → reply h s ≡ Refused
