-- Laws of what lies between two places of records, and of the first record that names a key. Assumes nothing.
use mathlib.Core.Path.{◌≡◌, refl, sym, ap, ◌∙◌}
use mathlib.Core.Bool.{Bool, true, false}
use mathlib.Core.List.{List, [], ◌∷◌, ◌++◌}
use Prim.Native.Nat.{ℕ, ◌+◌, ◌≤◌, ◌<◌}
use native.Mathlib.Omega.{arith}
use borrow.Author.Tests.{ltb-true, ltb-false}
use lib.ListN.{length, drop, length-append}
use lib.Dec.{ltb}
use Rattle.std.specs.Bool.{then_some}
use Rattle.std.specs.Prelude.{is_some}
use Rattle.base.specs.Lists.{each}
use Rattle.skeleton.specs.File.{Field, records_from}
use Rattle.keys.specs.Listed.{key_of, keys_from, listed, has_from}
use Rattle.keys.specs.Look.{looked, look_at, Sound}
use Rattle.keys.specs.Places.{Leads, here, over, Names, site_of, site_in}
use Rattle.keys.proofs.ListLaws.{listed_none, listed_later, not_first, not_later}
use Rattle.keys.proofs.PlaceLaws.{follows, leads_up, leads_then, site_here, site_over, site_end, site_at, site_none, site_says}
use Rattle.sorting.specs.Places.{Skips, Next}

-- ---- a record's fields

record First (k : ℕ) (items : List (List Field)) : Type 0 where
  fields : List Field
  split : items ≡ fields ∷ drop 1 items
  key : key_of fields ≡ k

first_of : (k : ℕ) (l : List ℕ) (items : List (List Field)) → each key_of items ≡ k ∷ l → First k items
unfolding each
first_of k l [] e = let z : ◌≡◌ {A = ℕ} 0 1 = cc in absurd (omega arith)
first_of k l (fs ∷ rest) e = record { fields = fs; split = refl; key = cc }

-- ---- what lies between two places

pub record Mid (u : List ℕ) (p q : ℕ) : Type 0 where
  pub mid : List (List Field)
  pub split : (records_from u p).items ≡ mid ++ (records_from u q).items

-- a record with its key, and those behind it
pub record Front (u : List ℕ) (p len key : ℕ) : Type 0 where
  pub fields : List Field
  pub split : (records_from u p).items ≡ fields ∷ (records_from u (p + len)).items
  pub key_of_lem : key_of fields ≡ key

pub front_of : (u : List ℕ) (p len key : ℕ) → Sound u p → look_at u p ≡ looked len key → Front u p len key
unfolding keys_from
front_of u p len key s e =
    let f = (follows u p len key s e).found in
    let i = first_of key (keys_from u (p + len)) (records_from u p).items f.keys in
    record { fields = i.fields; split = i.split ∙ ap (λ (l : List (List Field)). i.fields ∷ l) f.later; key_of_lem = i.key }

pub leads_mid : {u : List ℕ} {p q : ℕ} → Sound u p → Leads u p q → Mid u p q
leads_mid s here = record { mid = []; split = refl }
leads_mid {u} {p} {q} s (over {len} {key} e l) =
    let f = front_of u p len key s e in
    let m = leads_mid (follows u p len key s e).sound l in
    record { mid = f.fields ∷ m.mid; split = f.split ∙ ap (λ (l : List (List Field)). f.fields ∷ l) m.split }

-- ---- what is skipped

pub skips_none : (u : List ℕ) (key p : ℕ) → Skips u key p p
unfolding each
skips_none u key p = record { skipped = []; split = refl; none = listed_none key }

pub skips_over : (u : List ℕ) (key p len k r : ℕ) → Sound u p → look_at u p ≡ looked len k → (k ≡ key → ⊥) → Skips u key (p + len) r → Skips u key p r
unfolding each keys_from
skips_over u key p len k r s e n t =
    let f = (follows u p len k s e).found in
    let i = first_of k (keys_from u (p + len)) (records_from u p).items f.keys in
    record {
      skipped = i.fields ∷ t.skipped;
      split = i.split ∙ ap (λ (l : List (List Field)). i.fields ∷ l) (f.later ∙ t.split);
      none = listed_later key (key_of i.fields) (each key_of t.skipped) (λ z. n (sym i.key ∙ z)) ∙ t.none;
    }

pub skips_to : {u : List ℕ} {p r : ℕ} (key : ℕ) → Sound u p → Leads u p r → ((q : ℕ) → Names u p key q → q < r → ⊥) → Skips u key p r
skips_to {u} {p} key s here f = skips_none u key p
skips_to {u} {p} {r} key s (over {len} {key = k} e l) f =
    let g = follows u p len k s e in
    let up = leads_up l g.sound in
    let long = g.found.long in
    skips_over u key p len k r s e
    (λ z. f p (record { leads = here; len = len; look = e ∙ ap (looked len) z }) (omega arith))
    (skips_to key g.sound l (λ q n. f q (record { leads = over e n.leads; len = n.len; look = n.look })))

-- ---- for who goes from one record that names a key to the next

pub next_leads : {u : List ℕ} {us key p r : ℕ} → Leads u us p → Next u key p r → Leads u us r
next_leads l n = leads_then l n.leads

pub next_up : {u : List ℕ} {key p r : ℕ} → Sound u p → Next u key p r → p ≤ r
next_up s n = leads_up n.leads s

-- ---- the first that names a key is its place

-- a record before it is not the key's, and those behind it are skipped
skips_on : (u : List ℕ) (key p len k r : ℕ) → Sound u p → look_at u p ≡ looked len k → Leads u (p + len) r → Skips u key p r → (k ≡ key → ⊥) × Skips u key (p + len) r
unfolding each
skips_on u key p len k r s e l t = go t.skipped t.split t.none
  where
    f : Front u p len k
    f = front_of u p len k s e

    m : Mid u (p + len) r
    m = leads_mid (follows u p len k s e).sound l

    go : (xs : List (List Field)) → (records_from u p).items ≡ xs ++ (records_from u r).items → listed key (each key_of xs) ≡ false → (k ≡ key → ⊥) × Skips u key (p + len) r
    go [] a b =
        absurd (omega (arith, ap length (sym a ∙ f.split ∙ ap (λ (l : List (List Field)). f.fields ∷ l) m.split), length-append m.mid (records_from u r).items))
    go (g ∷ gs) a b =
        let z : g ∷ (gs ++ (records_from u r).items) ≡ f.fields ∷ (records_from u (p + len)).items = sym a ∙ f.split in
        let first : g ≡ f.fields = cc in
        let rest : (records_from u (p + len)).items ≡ gs ++ (records_from u r).items = cc in (
          λ h. not_first key (key_of g) (each key_of gs) b (ap key_of first ∙ f.key_of_lem ∙ h),
          record { skipped = gs; split = rest; none = not_later key (key_of g) (each key_of gs) b },
        )

site_past : {u : List ℕ} {p r : ℕ} (key : ℕ) → Sound u p → Leads u p r → Skips u key p r → site_of u p key ≡ site_of u r key
site_past key s here t = refl
site_past {u} {p} {r} key s (over {len} {key = k} e l) t =
    let g = skips_on u key p len k r s e l t in
    site_over u p len k s e key g.0 ∙ site_past key (follows u p len k s e).sound l g.1

pub next_site : (u : List ℕ) (key p r : ℕ) → Sound u p → Next u key p r → r ≡ site_of u p key
next_site u key p r s n = sym (site_past key s n.leads n.skips ∙ go (ltb r (length u)) refl)
  where
    go : (b : Bool) → ltb r (length u) ≡ b → site_of u r key ≡ r
    go true x = let m = n.names (ltb-true r (length u) x) in site_here u r m.len key n.sound m.look key refl
    go false x = let h = ltb-false r (length u) x in let i = n.sound.inside in site_end u r key h ∙ omega arith

-- or there is none, where it is the end
pub next_site_in : (u : List ℕ) (key p r : ℕ) → Sound u p → Next u key p r → then_some (ltb r (length u)) r ≡ site_in u p key
next_site_in u key p r s n = go (ltb r (length u)) refl
  where
    at_lem : r ≡ site_of u p key
    at_lem = next_site u key p r s n

    go : (b : Bool) → ltb r (length u) ≡ b → then_some (ltb r (length u)) r ≡ site_in u p key
    go true x = ap (λ (b : Bool). then_some b r) x ∙ site_at u p key r at_lem (ltb-true r (length u) x)
    go false x =
        let h = ltb-false r (length u) x in
        let i = n.sound.inside in
        ap (λ (b : Bool). then_some b r) x ∙ site_none u p key (let z : length u ≡ r = omega arith in z ∙ at_lem)

pub next_says : (u : List ℕ) (key p r : ℕ) → Sound u p → Next u key p r → ltb r (length u) ≡ has_from u p key
next_says u key p r s n = some_lem (ltb r (length u)) ∙ site_says u p key s (then_some (ltb r (length u)) r) (next_site_in u key p r s n)
  where
    some_lem : (b : Bool) → b ≡ is_some (then_some b r)
    some_lem true = refl
    some_lem false = refl
