-- Laws of a record of the dataset that is found by its key. Assumes nothing.
use mathlib.Core.Path.{◌≡◌, refl, sym, ap, ◌∙◌, subst}
use mathlib.Core.Bool.{Bool, true, false, true≢false}
use mathlib.Core.Option.{Option, some, none}
use mathlib.Core.List.{List, [], ◌∷◌}
use Prim.Native.Nat.{ℕ, zero, suc, ◌+◌, ◌/◌, ◌<◌}
use native.Mathlib.Omega.{arith}
use borrow.Author.Tests.{eq-eqb, ne_eqb}
use lib.ListN.{length, drop}
use lib.Seq.{drop_at}
use Rattle.std.specs.Prelude.{Option as StdOption, Some, None, Result, Ok, Err}
use Rattle.base.specs.Choice.{pick}
use Rattle.base.specs.Lists.{each, Each}
use Rattle.base.proofs.EachLaws.{each_parts}
use Rattle.base.specs.Keys.{same}
use Rattle.base.proofs.KeysLaws.{same_sound, same_refl}
use Rattle.skeleton.specs.File.{Field, records_from}
use Rattle.skeleton.specs.Place.{between, fields_at}
use Rattle.skeleton.specs.Record.{record_at}
use Rattle.skeleton.specs.declared.leader.Head.{Head}
use Rattle.skeleton.specs.declared.leader.Broken.{Broken}
use Rattle.rules.specs.Record.{Rec, key_of as key_in_rules, key_named, rec_of}
use Rattle.rules.specs.declared.Kind.{Kind}
use Rattle.rules.proofs.Locality.{key_named_lem}
use Rattle.sequence.specs.Keyed.{find, Once}
use Rattle.updates.specs.Acts.{chart}
use Rattle.updates.specs.Accepted.{Writable}
use Rattle.stock.specs.Stored.{Stored}
use Rattle.stock.specs.Stock.{rec_by, rec_in, AnyStored, stock_from, Stock}
use Rattle.stock.proofs.StockLaws.{stock_good, stock_here}
use Rattle.keys.specs.Key.{key_at, kind_ranked}
use Rattle.keys.specs.Listed.{key_of, keys_from, listed, has_from, EachOnce}
use Rattle.keys.specs.Look.{Sound}
use Rattle.keys.specs.Numbered.{number_of, Ranged}
use Rattle.keys.specs.Places.{Names, site_in}
use Rattle.keys.proofs.ListLaws.{listed_none, listed_later, not_first, not_later}
use Rattle.keys.proofs.PlaceLaws.{follows, leads_sound, SiteKnown, site_known}
use Rattle.keys.proofs.NumberLaws.{same_number}
use Rattle.sorting.proofs.PlaceLaws.{Mid, leads_mid}
use Rattle.items.specs.Items.{source}
use Rattle.version.specs.Held.{Held}
use Rattle.version.specs.Present.{HeldAs, FlagsKept}
use Rattle.version.specs.declared.Version.{Version}
use Rattle.history.specs.Here.{record_here}
use Rattle.history.proofs.HereLaws.{here_is, here_word, here_fits, here_keyed, here_kind, Known, known_stored}

-- ---- the record with a key, among those of the dataset

-- the record that fields say has their key
pub record Said (fs : List Field) : Type 0 where
  pub ranged : Ranged (key_in_rules (rec_in fs))
  pub number : key_of fs ≡ number_of (key_in_rules (rec_in fs))

said_as : (k : Kind) (fs : List Field) → Stored k fs → rec_in fs ≡ rec_of k fs
unfolding rec_by
said_as k fs s = ap (λ (o : Option Kind). rec_by o fs) (known_stored k fs s).kind

pub said : (k : Kind) (fs : List Field) → Stored k fs → Said fs
said k fs s =
    let n = (known_stored k fs s).keyed in
    let e : key_in_rules (rec_in fs) ≡ key_named k fs = ap key_in_rules (said_as k fs s) ∙ key_named_lem k fs in
    record { ranged = rw e n.ranged; number = rw e n.number }

-- a key that is not listed is not found
pub none_listed : (items : List (List Field)) → Each AnyStored items → (k : List ℕ) → Ranged k → listed (number_of k) (each key_of items) ≡ false
    → find chart k (each rec_in items) ≡ none
unfolding Each each find
none_listed [] s k r e = refl
none_listed (fs ∷ items) s k r e =
    let t = said s.0.0 fs s.0.1 in
    let n : key_of fs ≡ number_of k → ⊥ = not_first (number_of k) (key_of fs) (each key_of items) e in
    let x : same (key_in_rules (rec_in fs)) k ≡ false
    = same_number (key_in_rules (rec_in fs)) k t.ranged r ∙ ne_eqb (number_of k) (number_of (key_in_rules (rec_in fs))) (λ z. n (t.number ∙ sym z)) in
    rw x (none_listed items s.1 k r (not_later (number_of k) (key_of fs) (each key_of items) e))

-- a record that stands is found where keys stand once
pub once_found : (i : ℕ) (items : List (List Field)) → Once chart (each rec_in items) → (fs : List Field) (later : List (List Field)) → drop i items ≡ fs ∷ later
    → find chart (key_in_rules (rec_in fs)) (each rec_in items) ≡ some (rec_in fs)
unfolding Once each find
once_found zero [] o fs later e = absurd (let z : ◌≡◌ {A = ℕ} 0 1 = cc in omega arith)
once_found (suc i) [] o fs later e = absurd (let z : ◌≡◌ {A = ℕ} 0 1 = cc in omega arith)
once_found zero (gs ∷ items) o fs later e =
    let z : gs ≡ fs = cc in
    rw (z, same_refl (key_in_rules (rec_in fs)))
once_found (suc i) (gs ∷ items) o fs later e =
    let there = once_found i items o.1 fs later e in
    go (same (key_in_rules (rec_in gs)) (key_in_rules (rec_in fs))) refl there
  where
    go : (t : Bool) → same (key_in_rules (rec_in gs)) (key_in_rules (rec_in fs)) ≡ t → find chart (key_in_rules (rec_in fs)) (each rec_in items) ≡ some (rec_in fs)
        → pick t (some (rec_in gs)) (find chart (key_in_rules (rec_in fs)) (each rec_in items)) ≡ some (rec_in fs)
    go false y h = h
    go true y h =
        let z = same_sound (key_in_rules (rec_in gs)) (key_in_rules (rec_in fs)) y in
        let n : find chart (key_in_rules (rec_in fs)) (each rec_in items) ≡ none = rw z at o.0 in
        absurd (let w : ◌≡◌ {A = ℕ} 0 1 = cc in omega arith)

-- a key that is not found is not listed
none_found : (items : List (List Field)) → Each AnyStored items → (k : List ℕ) → Ranged k → find chart k (each rec_in items) ≡ none
    → listed (number_of k) (each key_of items) ≡ false
unfolding Each each find
none_found [] s k r e = listed_none (number_of k)
none_found (fs ∷ items) s k r e = go (same (key_in_rules (rec_in fs)) k) refl (none_found items s.1 k r) e
  where
    go : (t : Bool) → same (key_in_rules (rec_in fs)) k ≡ t → (find chart k (each rec_in items) ≡ none → listed (number_of k) (each key_of items) ≡ false)
        → pick t (some (rec_in fs)) (find chart k (each rec_in items)) ≡ none → listed (number_of k) (key_of fs ∷ each key_of items) ≡ false
    go true x later e = absurd (let z : ◌≡◌ {A = ℕ} 0 1 = cc in omega arith)
    go false x later e =
        let t = said s.0.0 fs s.0.1 in
        let test = same_number (key_in_rules (rec_in fs)) k t.ranged r in
        listed_later (number_of k) (key_of fs) (each key_of items)
        (λ z. true≢false (sym (test ∙ eq-eqb (number_of k) (number_of (key_in_rules (rec_in fs))) (sym z ∙ t.number)) ∙ x))
        ∙ later e

-- where records stand once under their keys, so do the keys as numbers
numbers_once : (items : List (List Field)) → Each AnyStored items → Once chart (each rec_in items) → EachOnce (each key_of items)
unfolding Each each Once EachOnce
numbers_once [] s o = tt
numbers_once (fs ∷ items) s o =
    let t = said s.0.0 fs s.0.1 in (
      ap (λ (n : ℕ). listed n (each key_of items)) t.number ∙ none_found items s.1 (key_in_rules (rec_in fs)) t.ranged o.0,
      numbers_once items s.1 o.1,
    )

-- ---- `locate`

-- s is the dataset's record whose key has this number
pub record Stands (d : List ℕ) (ds key : ℕ) (s : Rec) : Type 0 where
  pub ranged : Ranged (key_in_rules s)
  pub number : number_of (key_in_rules s) ≡ key
  pub found : find chart (key_in_rules s) (stock_from d ds) ≡ some s

-- it begins at the place, where there is one; else there is no such record
pub record Located (d : List ℕ) (ds key : ℕ) (r : StdOption ℕ) : Type 0 where
  pub stock : (p : ℕ) → r ≡ Some p → Stock d p
  pub inside : (p : ℕ) → r ≡ Some p → p < length d
  pub there : (p : ℕ) → r ≡ Some p → Stands d ds key (rec_in (record_here d p))
  pub gone : r ≡ None → (k : List ℕ) → Ranged k → number_of k ≡ key → find chart k (stock_from d ds) ≡ none

module _ (d : List ℕ) (ds : ℕ) (s : Stock d ds) (o : Once chart (stock_from d ds)) where
  pub keys_once_lem : EachOnce (keys_from d ds)
  unfolding stock_from keys_from
  keys_once_lem = numbers_once (records_from d ds).items s.right o

  module _ (key : ℕ) (sound : Sound d ds) where
    module _ (r : ℕ) (n : Names d ds key r) where
      mid : Mid d ds r
      mid = leads_mid sound n.leads

      names_sound : Sound d r
      names_sound = leads_sound n.leads sound

      names_stock : Stock d r
      names_stock = record {
        ended = names_sound.clean;
        right = (each_parts AnyStored mid.mid (records_from d r).items (subst (Each AnyStored) mid.split s.right)).1;
      }

      names_stands : Stands d ds key (rec_in (record_here d r))
      unfolding stock_from Each
      names_stands =
          let h = here_keyed d r key (keys_from d (r + n.len)) (follows d r n.len key names_sound n.look).found.keys in
          let a : Each AnyStored (record_here d r ∷ drop 1 (records_from d r).items) = rw h.0 at names_stock.right in
          let b = said a.0.0 (record_here d r) a.0.1 in
          let behind : drop (length mid.mid) (records_from d ds).items ≡ record_here d r ∷ drop 1 (records_from d r).items
          = ap (drop (length mid.mid)) mid.split ∙ drop_at mid.mid (records_from d r).items (length mid.mid) refl ∙ h.0 in
          record {
            ranged = b.ranged;
            number = sym b.number ∙ h.1;
            found = once_found (length mid.mid) (records_from d ds).items o (record_here d r) (drop 1 (records_from d r).items) behind;
          }

    -- what stands where the key's place is
    pub located : (r : StdOption ℕ) → r ≡ site_in d ds key → Located d ds key r
    unfolding stock_from has_from keys_from
    located r e =
        let t : SiteKnown d ds key r = site_known d ds key sound r e in
        record {
          stock = λ p h. names_stock p (t.there p h);
          inside = t.inside;
          there = λ p h. names_stands p (t.there p h);
          gone = λ h k g x. none_listed (records_from d ds).items s.right k g (rw x (t.gone h));
        }

-- ---- `load_at`

module _ (d : List ℕ) (at : ℕ) (s : Stock d at) (h : at < length d) (q : Result Head Broken) (e : q ≡ record_at d at) where
  pub load_refused : {X : Type 0} → (n : Broken) → q ≡ Err n → X
  load_refused n x = absurd (stock_good d at s h q e n x)

  module _ (head : Head) (x : q ≡ Ok head) where
    pub load_fields : (key : ℕ) → key ≡ key_at d (at + head.shape.base) → (k : Kind) → k ≡ kind_ranked (key / 4294967296)
        → Stored k (fields_at (between d at (at + head.len)) head.shape 24)
    load_fields key ek k e2 =
        let t = stock_here d at s h q e head x in
        let z : k ≡ t.0 = here_kind d at q e head x t.0 (known_stored t.0 _ t.1) key ek k e2 in
        rw z t.1

    pub load_held : (k : Kind) → Stored k (fields_at (between d at (at + head.len)) head.shape 24)
        → (w : List ℕ) (v : Version)
        → ((c u : List ℕ) → source 0 c u ≡ d → Held c u w v (rec_of k (fields_at (between d at (at + head.len)) head.shape 24)))
        → (u : List ℕ) → Writable (rec_in (record_here d at)) → HeldAs d u w (Some v) (some (rec_in (record_here d at)))
    unfolding HeldAs source
    load_held k t w v g u y =
        let z : rec_in (record_here d at) ≡ rec_of k (fields_at (between d at (at + head.len)) head.shape 24)
        = ap rec_in (here_is d at h q e head x) ∙ said_as k _ t in
        (rec_in (record_here d at), refl, rw z (g d u refl), y)

-- what stands behind the areas of a version, said in one word
pub flags_stay : (w v : List ℕ) → drop 386000 v ≡ drop 386000 w → FlagsKept w v
flags_stay w v e = e

pub ruleset load_ways = (here_word, here_fits, arith)
