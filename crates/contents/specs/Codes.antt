-- The keys of a record's associations, each as one number, and a walk over them.
use Rattle.std.specs.Prelude.{ℕ, ◌+◌, ◌*◌, ◌≤◌, ◌<◌, ◌≡◌, Bool, true, false, List, [], ◌∷◌, ◌++◌, length, get_or, take, drop, Option, Some, None}
use Rattle.base.specs.Lists.{each}
use Rattle.fields.specs.Places.{ending_at}
use Rattle.fields.specs.Table.{tuple_of}
use Rattle.fields.specs.declared.Format.TheVariants.{Spas}
use Rattle.skeleton.specs.File.{Field}
use Rattle.skeleton.specs.Place.{between, fields_at}
use Rattle.skeleton.specs.declared.directory.Shape.{Shape}
use Rattle.rules.specs.Associations.{spas_keys}
use Rattle.keys.specs.Listed.{listed}
use Rattle.book.specs.Book.{Met, entered}
use Rattle.contents.specs.Fit.{all_fit}
use Rattle.contents.specs.Keys.{keys_in}
use Rattle.contents.specs.declared.codes.Walk.{Walk}
use Rattle.contents.specs.declared.once.Gathered.{Gathered}

-- a key's code: RRID, and then NIAC and NARC, or RRNM and what no NARC is
unfoldable pub code_of : List ℕ → ℕ
code_of [] = 0
code_of (x ∷ []) = 0
code_of (x ∷ y ∷ []) = y * 4294967296 + (x * 65536 + 65535)
code_of (x ∷ y ∷ z ∷ []) = 0
code_of (x ∷ y ∷ z ∷ w ∷ l) = y * 4294967296 + (z * 65536 + w)

-- the codes of the keys of fields
unfoldable pub codes_in : List Field → List ℕ
codes_in fs = each code_of (keys_in fs)

-- none of the first m codes stood earlier
unfoldable pub Apart : List ℕ → ℕ → Type 0
Apart l m = (i : ℕ) → i < m → listed (get_or l i 0) (take i l) ≡ false

-- ---- a walk

-- from the entry at p on
abbrev pub walk_from : ℕ → Walk
walk_from p = record { next = p; start = 0; end = 0; at = 0 }

-- the codes that it has before it
unfoldable pub codes_from : List ℕ → Shape → Walk → List ℕ
codes_from r h w = each code_of (spas_keys (drop w.at (between r w.start w.end))) ++ codes_in (fields_at r h w.next)

-- it stands at a tuple of a SPAS, or at its end, and at fields that have their formats
pub record Walks (r : List ℕ) (h : Shape) (w : Walk) : Type 0 where
  pub fit : all_fit false (fields_at r h w.next) ≡ true
  pub even : ending_at (tuple_of Spas) (between r w.start w.end) w.at ≡ 0
  pub runs : w.start ≤ w.end
  pub inside : w.end ≤ length r

-- it stands behind y of the codes of the fields from the entry at p on
pub record Behind (r : List ℕ) (h : Shape) (p y : ℕ) (w : Walk) : Type 0 where
  pub walks : Walks r h w
  pub rest : drop y (codes_in (fields_at r h p)) ≡ codes_from r h w

-- one step: the first code, and the walk behind it
abbrev pub Steps : List ℕ → Shape → Walk → Option (ℕ × Walk) → Type 0
Steps r h w (Some s) = (codes_from r h w ≡ s.0 ∷ codes_from r h s.1) × Walks r h s.1
Steps r h w None = codes_from r h w ≡ []

-- ---- codes held against a book

-- so many codes from a walk on, and the walk behind them; at most room many, and none only where there is none
pub record Gathers (r : List ℕ) (h : Shape) (w : Walk) (room : ℕ) (g : Gathered) : Type 0 where
  pub walks : Walks r h g.on
  pub rest : codes_from r h g.on ≡ drop g.count (codes_from r h w)
  pub few : g.count ≤ room
  pub some : g.count ≡ 0 → codes_from r h w ≡ []

-- a code joins the flags of a book; where that is asked for, it is none of those that joined them before
pub record Joins (b t t' : List ℕ) (code : ℕ) (new : Bool) : Type 0 where
  pub flags : t' ≡ entered b t code
  pub fresh : new ≡ true → (l : List ℕ) → Met b l t → listed code l ≡ false
