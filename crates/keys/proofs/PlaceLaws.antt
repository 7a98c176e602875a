-- Laws of the places of records, and of the place of a key. Assumes nothing.
use mathlib.Core.Path.{◌≡◌, refl, sym, ap, ◌∙◌, subst}
use mathlib.Core.Bool.{Bool, true, false}
use mathlib.Core.List.{List, [], ◌∷◌}
use Prim.Native.Nat.{ℕ, zero, suc, ◌+◌, ◌≤◌, ◌<◌}
use native.Mathlib.Omega.{arith}
use borrow.Author.Tests.{eq-eqb, ne_eqb, eqb-true, eqb-false, ltb-true, ltb-false}
use lib.ListN.{length}
use lib.Dec.{eqb, ltb}
use Rattle.std.specs.Prelude.{Option, Some, None, is_some}
use Rattle.base.specs.Choice.{pick}
use Rattle.keys.specs.Listed.{keys_from, listed, has_from, EachOnce}
use Rattle.keys.specs.Look.{looked, look_at, Sound}
use Rattle.keys.specs.Order.{ascends}
use Rattle.keys.specs.Places.{Leads, here, over, Names, length_by, site_among, site_of, site_in}
use Rattle.keys.specs.declared.look.Look.{Look}
use Rattle.keys.proofs.BelowLaws.{below_here, below_none, below_is, below_past}
use Rattle.keys.proofs.ListLaws.{listed_here, listed_later, listed_none, not_first, not_later}
use Rattle.keys.proofs.LookLaws.{keys_past}
use Rattle.keys.proofs.OrderLaws.{parted, above_none}
use Rattle.keys.proofs.SoundLaws.{Next as Follows, sound_next, sound_nothing}

-- ---- a record at a place

pub follows : (u : List ℕ) (p len key : ℕ) → Sound u p → look_at u p ≡ looked len key → Follows u p len key
follows u p len key s e = sound_next u p s (look_at u p) refl (record { len = len; key = key }) e

-- a record's key
abbrev key_by : Option Look → ℕ
key_by (Some look) = look.key
key_by None = 0

pub same_look : (e : Option Look) (len key n k : ℕ) → e ≡ looked len key → e ≡ looked n k → (len ≡ n) × (key ≡ k)
same_look e len key n k a b = let c = sym a ∙ b in (ap length_by c, ap key_by c)

-- ---- places in order

pub leads_sound : {u : List ℕ} {p r : ℕ} → Leads u p r → Sound u p → Sound u r
leads_sound here s = s
leads_sound {u} {p} (over {len} {key} e l) s = leads_sound l (follows u p len key s e).sound

pub leads_up : {u : List ℕ} {p r : ℕ} → Leads u p r → Sound u p → p ≤ r
leads_up here s = omega arith
leads_up {u} {p} (over {len} {key} e l) s = let f = follows u p len key s e in let i = leads_up l f.sound in omega arith

pub leads_then : {u : List ℕ} {p q r : ℕ} → Leads u p q → Leads u q r → Leads u p r
leads_then here m = m
leads_then (over e l) m = over e (leads_then l m)

-- of two places that one leads to, the first leads to the second
pub leads_on : {u : List ℕ} {p q r : ℕ} → Sound u p → Leads u p q → Leads u p r → q ≤ r → Leads u q r
leads_on s here m h = m
leads_on {u} {p} s (over {len} {key} e l) here h =
    let f = follows u p len key s e in let i = leads_up l f.sound in let g = f.found.long in absurd (omega arith)
leads_on {u} {p} {q} {r} s (over {len} {key} e l) (over {len = n} {key = k} d m) h =
    let z = same_look (look_at u p) len key n k e d in
    leads_on (follows u p len key s e).sound l (subst (λ (i : ℕ). Leads u (p + i) r) (sym z.0) m) h

-- up to the end
at_end_lem : (u : List ℕ) (p : ℕ) → Sound u p → length u ≤ p → Leads u p (length u)
at_end_lem u p s l = let i = s.inside in let z : p ≡ length u = omega arith in subst (λ (i : ℕ). Leads u p i) z here

-- or one record further, where there is one
one_further : (u : List ℕ) (p : ℕ) → Sound u p → ((len : ℕ) → 0 < len → Sound u (p + len) → Leads u (p + len) (length u))
    → (b : Bool) → ltb p (length u) ≡ b → (e : Option Look) → e ≡ look_at u p → Leads u p (length u)
one_further u p s f false l e x = at_end_lem u p s (ltb-false p (length u) l)
one_further u p s f true l None x = absurd (sound_nothing u p s None x (ltb-true p (length u) l) refl)
one_further u p s f true l (Some look) x = let g = follows u p look.len look.key s (sym x) in over (sym x) (f look.len g.found.long g.sound)

to_end : (u : List ℕ) (fuel p : ℕ) → length u ≤ p + fuel → Sound u p → Leads u p (length u)
to_end u zero p h s = at_end_lem u p s (omega arith)
to_end u (suc n) p h s = one_further u p s (λ len l t. to_end u n (p + len) (omega arith) t) (ltb p (length u)) refl (look_at u p) refl

pub leads_end : (u : List ℕ) (p : ℕ) → Sound u p → Leads u p (length u)
leads_end u p s = to_end u (length u) p (omega arith) s

-- ---- the place of a key, and those of the records before it

module _ (f : List ℕ) (p len k : ℕ) (s : Sound f p) (e : look_at f p ≡ looked len k) where
  -- by the record at p
  site_step : (key : ℕ) → site_of f p key ≡ pick (eqb k key) p (site_of f (p + len) key)
  unfolding site_of site_among
  site_step key =
      ap (site_among f key p) (follows f p len k s e).found.keys
      ∙ ap (λ (l : Option Look). pick (eqb k key) p (site_among f key (p + length_by l) (keys_from f (p + len)))) e

  pub site_here : (key : ℕ) → k ≡ key → site_of f p key ≡ p
  site_here key h = site_step key ∙ ap (λ (b : Bool). pick b p (site_of f (p + len) key)) (eq-eqb k key h)

  pub site_over : (key : ℕ) → (k ≡ key → ⊥) → site_of f p key ≡ site_of f (p + len) key
  site_over key h = site_step key ∙ ap (λ (b : Bool). pick b p (site_of f (p + len) key)) (ne_eqb k key h)

  -- it has a key, before the end
  pub look_inside : p < length f
  look_inside = let g = (follows f p len k s e).found in let i = g.long in let j = g.inside in omega arith

-- none has the key
gone_among : (f : List ℕ) (key p : ℕ) (ks : List ℕ) → listed key ks ≡ false → site_among f key p ks ≡ length f
unfolding site_among
gone_among f key p [] e = refl
gone_among f key p (k ∷ ks) e =
    rw (ne_eqb k key (not_first key k ks e)) (gone_among f key (p + length_by (look_at f p)) ks (not_later key k ks e))

pub site_gone : (f : List ℕ) (p key : ℕ) → has_from f p key ≡ false → site_of f p key ≡ length f
unfolding site_of has_from
site_gone f p key e = gone_among f key p (keys_from f p) e

pub site_end : (f : List ℕ) (p key : ℕ) → length f ≤ p → site_of f p key ≡ length f
unfolding has_from
site_end f p key h = site_gone f p key (ap (listed key) (keys_past f p h) ∙ listed_none key)

-- a key that a record names is among those of the records that lead to it
pub leads_listed : {f : List ℕ} {p r : ℕ} → Sound f p → Leads f p r → (len key : ℕ) → look_at f r ≡ looked len key → has_from f p key ≡ true
unfolding has_from
leads_listed {f} {p} s here len key e = ap (listed key) (follows f p len key s e).found.keys ∙ listed_here key key (keys_from f (p + len)) refl
leads_listed {f} {p} s (over {len = n} {key = k} d l) len key e =
    let g = follows f p n k s d in
    let later = leads_listed g.sound l len key e in
    ap (listed key) g.found.keys ∙ go (eqb k key) refl later
  where
    go : (b : Bool) → eqb k key ≡ b → listed key (keys_from f (p + n)) ≡ true → listed key (k ∷ keys_from f (p + n)) ≡ true
    go true x h = listed_here key k (keys_from f (p + n)) (eqb-true k key x)
    go false x h = listed_later key k (keys_from f (p + n)) (eqb-false k key x) ∙ h

-- where keys stand once, a record that names the key is the first
pub site_once : {f : List ℕ} {p r : ℕ} → Sound f p → Leads f p r → EachOnce (keys_from f p) → (len key : ℕ) → look_at f r ≡ looked len key → site_of f p key ≡ r
unfolding EachOnce has_from
site_once {f} {p} s here o len key e = site_here f p len key s e key refl
site_once {f} {p} s (over {len = n} {key = k} d l) o len key e =
    let g = follows f p n k s d in
    let parts : EachOnce (k ∷ keys_from f (p + n)) = subst EachOnce g.found.keys o in
    let there : listed key (keys_from f (p + n)) ≡ true = leads_listed g.sound l len key e in
    site_over f p n k s d key
    (λ z. absurd (let w : true ≡ false = sym there ∙ ap (λ (i : ℕ). listed i (keys_from f (p + n))) (sym z) ∙ parts.0 in let y : ◌≡◌ {A = ℕ} 0 1 = cc in omega arith))
    ∙ site_once g.sound l parts.1 len key e

-- ---- where keys ascend

-- the record at r is above what the first is above, and so are those behind it
record Above (f : List ℕ) (low r len key : ℕ) : Type 0 where
  above : low < key
  others : ascends key (keys_from f (r + len)) ≡ true

leads_above : {f : List ℕ} {p r : ℕ} → Sound f p → Leads f p r → (low : ℕ) → ascends low (keys_from f p) ≡ true → (len key : ℕ) → look_at f r ≡ looked len key → Above f low r len key
leads_above {f} {p} s here low a len key e =
    let o = parted low key (keys_from f (p + len)) (subst (λ (l : List ℕ). ascends low l ≡ true) (follows f p len key s e).found.keys a) in
    record { above = o.first; others = o.others }
leads_above {f} {p} s (over {len = n} {key = k} d l) low a len key e =
    let g = follows f p n k s d in
    let o = parted low k (keys_from f (p + n)) (subst (λ (l : List ℕ). ascends low l ≡ true) g.found.keys a) in
    let h = leads_above g.sound l k o.others len key e in
    let i = o.first in
    let j = h.above in
    record { above = omega arith; others = h.others }

-- none before a record whose key is not above it has the key
pub site_ahead : {f : List ℕ} {p r : ℕ} → Sound f p → Leads f p r → (low : ℕ) → ascends low (keys_from f p) ≡ true → (len key : ℕ) → look_at f r ≡ looked len key
    → (k : ℕ) → key ≤ k → site_of f r k ≡ site_of f p k
site_ahead s here low a len key e k h = refl
site_ahead {f} {p} s (over {len = n} {key = j} d l) low a len key e k h =
    let g = follows f p n j s d in
    let o = parted low j (keys_from f (p + n)) (subst (λ (l : List ℕ). ascends low l ≡ true) g.found.keys a) in
    let i = (leads_above g.sound l j o.others len key e).above in
    site_ahead g.sound l j o.others len key e k h ∙ sym (site_over f p n j s d k (λ z. omega arith))

-- from a record with a larger key on, none has it
pub none_behind : {f : List ℕ} {p r : ℕ} → Sound f p → Leads f p r → (low : ℕ) → ascends low (keys_from f p) ≡ true → (len key : ℕ) → look_at f r ≡ looked len key
    → (k : ℕ) → k < key → site_of f r k ≡ length f
unfolding has_from
none_behind {f} {p} {r} s l low a len key e k h =
    let o = (leads_above s l low a len key e).others in
    site_gone f r k
    (ap (listed k) (follows f r len key (leads_sound l s) e).found.keys ∙ listed_later k key (keys_from f (r + len)) (λ z. omega arith) ∙ above_none key (keys_from f (r + len)) k o (omega arith))

-- ---- what is known of it

-- a record with the key begins there where it is before the file's end; else none of them has it
record Sited (f : List ℕ) (start key r : ℕ) : Type 0 where
  there : r < length f → Names f start key r
  gone : length f ≤ r → has_from f start key ≡ false

sited_end : (f : List ℕ) (p key : ℕ) → length f ≤ p → Sited f p key (site_of f p key)
unfolding has_from
sited_end f p key h = rw (site_end f p key h) (record { there = λ g. absurd (omega arith); gone = λ g. ap (listed key) (keys_past f p h) ∙ listed_none key })

-- at one record, by those behind it
sited_step : (f : List ℕ) (p key : ℕ) → Sound f p → (len k : ℕ) → look_at f p ≡ looked len k → Sited f (p + len) key (site_of f (p + len) key) → Sited f p key (site_of f p key)
unfolding has_from
sited_step f p key s len k e t = go (eqb k key) refl
  where
    go : (b : Bool) → eqb k key ≡ b → Sited f p key (site_of f p key)
    go true x =
        let z = eqb-true k key x in
        rw (site_here f p len k s e key z)
        (record { there = λ h. record { leads = here; len = len; look = e ∙ ap (looked len) z }; gone = λ h. absurd (omega (arith, look_inside f p len k s e)) })
    go false x =
        let z = eqb-false k key x in
        rw (site_over f p len k s e key z)
        (record {
          there = λ h. let n = t.there h in record { leads = over e n.leads; len = n.len; look = n.look };
          gone = λ h. ap (listed key) (follows f p len k s e).found.keys ∙ listed_later key k (keys_from f (p + len)) z ∙ t.gone h;
        })

sited_by : (f : List ℕ) (p key : ℕ) → Sound f p → ((len : ℕ) → 0 < len → Sound f (p + len) → Sited f (p + len) key (site_of f (p + len) key))
    → (b : Bool) → ltb p (length f) ≡ b → (e : Option Look) → e ≡ look_at f p → Sited f p key (site_of f p key)
sited_by f p key s g false l e x = sited_end f p key (ltb-false p (length f) l)
sited_by f p key s g true l None x = absurd (sound_nothing f p s None x (ltb-true p (length f) l) refl)
sited_by f p key s g true l (Some look) x =
    let n = follows f p look.len look.key s (sym x) in sited_step f p key s look.len look.key (sym x) (g look.len n.found.long n.sound)

sited_from : (f : List ℕ) (fuel p key : ℕ) → length f ≤ p + fuel → Sound f p → Sited f p key (site_of f p key)
sited_from f zero p key h s = sited_end f p key (omega arith)
sited_from f (suc n) p key h s = sited_by f p key s (λ len l t. sited_from f n (p + len) key (omega arith) t) (ltb p (length f)) refl (look_at f p) refl

sited : (f : List ℕ) (p key : ℕ) → Sound f p → Sited f p key (site_of f p key)
sited f p key s = sited_from f (length f) p key (omega arith) s

-- the same of the place, or none
pub record SiteKnown (f : List ℕ) (start key : ℕ) (r : Option ℕ) : Type 0 where
  pub inside : (p : ℕ) → r ≡ Some p → p < length f
  pub there : (p : ℕ) → r ≡ Some p → Names f start key p
  pub gone : r ≡ None → has_from f start key ≡ false

pub site_known : (f : List ℕ) (start key : ℕ) → Sound f start → (r : Option ℕ) → r ≡ site_in f start key → SiteKnown f start key r
unfolding site_in
site_known f start key s r e =
    let t = sited f start key s in
    record {
      inside = λ p x. (let i = below_is (length f) (site_of f start key) r e p x in omega arith);
      there = λ p x. (let i = below_is (length f) (site_of f start key) r e p x in rw i.0 (t.there i.1));
      gone = λ x. t.gone (below_past (length f) (site_of f start key) r e x);
    }

-- so whether there is one is whether the key is among theirs
pub site_says : (f : List ℕ) (start key : ℕ) → Sound f start → (r : Option ℕ) → r ≡ site_in f start key → is_some r ≡ has_from f start key
site_says f start key s r e = go r refl
  where
    go : (o : Option ℕ) → r ≡ o → is_some r ≡ has_from f start key
    go (Some p) x = let n = (site_known f start key s r e).there p x in ap is_some x ∙ sym (leads_listed s n.leads n.len key n.look)
    go None x = ap is_some x ∙ sym ((site_known f start key s r e).gone x)

-- by the place, or the file's length
module _ (f : List ℕ) (start key : ℕ) where
  pub site_at : (p : ℕ) → p ≡ site_of f start key → p < length f → Some p ≡ site_in f start key
  unfolding site_in
  site_at p e h = rw (← e) (below_here (length f) p h)

  pub site_none : length f ≡ site_of f start key → None ≡ site_in f start key
  unfolding site_in
  site_none e = rw (← e) (below_none (length f) (length f) (omega arith))
