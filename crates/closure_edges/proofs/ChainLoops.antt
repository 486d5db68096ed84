-- The loops that fill the tables, and what they leave.
-- Assumes nothing.
use mathlib.Core.Path.{◌≡◌, refl, sym, ap, ◌∙◌}
use mathlib.Core.List.{List}
use Prim.Native.Nat.{ℕ, zero, suc, ◌+◌, ◌-◌, ◌≤◌, ◌<◌}
use native.Mathlib.Omega.{arith}
use lib.ListN.{length, get_or, set, length-set}
use borrow.Author.Tests.{le-leb, lt-leb}
use Rattle.model.specs.Sheet.{code_count}
use Rattle.model.specs.Call.{zeros}
use Rattle.closure_edges.specs.Links.{Links, links, link, link_each, graph, buckets_at, link_down, graph_of, links_of}
use Rattle.closure_edges.specs.declared.Buckets.{Buckets}
use Rattle.closure_edges.specs.declared.Link.{Link}
use Rattle.closure_edges.specs.declared.Chains.{Chains}

-- ---- the links of one instruction

module _ (pc first : ℕ) (t : Links) where
  pub each_used : (i : ℕ) → (link_each pc first i t).used ≡ t.used + i
  unfolding link_each link
  each_used zero = omega arith
  each_used (suc i) = omega (arith, each_used i)

  pub each_room : (i : ℕ) → length (link_each pc first i t).entries ≡ length t.entries
  unfolding link_each link
  each_room zero = refl
  each_room (suc i) = simp length-set (each_room i)

-- i buckets have their link
pub record Linking (pc first count : ℕ) (was is : Links) (i : ℕ) : Type 0 where
  pub within : i ≤ count
  pub top_is : is.used ≡ was.used + i
  pub entries_long : length is.entries ≡ length was.entries
  pub are : is ≡ link_each pc first i was

pub linking_none : (pc first count : ℕ) (t : Links) → Linking pc first count t t 0
unfolding link_each
linking_none pc first count t = record { within = omega arith; top_is = omega arith; entries_long = refl; are = refl }

pub linking_more : {pc first count i : ℕ} {was is : Links} → Linking pc first count was is i → i < count
    → let k = first + i in Linking pc first count was (links (set is.heads k (is.used + 1)) (set is.entries is.used (record { pc = pc; next = get_or is.heads k 0 })) (is.used + 1)) (i + 1)
unfolding link_each link
linking_more {pc} {first} {i = i} l m =
    let e : i + 1 ≡ suc i = omega arith in
    rw e (record {
      within = omega arith;
      top_is = omega (arith, l.top_is);
      entries_long = simp length-set l.entries_long;
      are = ap (link pc (first + i)) l.are;
    })

-- the same of chains, in the same memory
pub record LinkingChains (pc first count : ℕ) (was is : Chains) (i : ℕ) : Type 0 where
  pub linked : Linking pc first count (links_of was) (links_of is) i
  pub same_heads : is.heads.ghost_name ≡ was.heads.ghost_name
  pub same_links : is.links.ghost_name ≡ was.links.ghost_name

-- ---- the instructions

module _ (sheet : List ℕ) where
  down_room : (pc : ℕ) (t : Links) → t.used + (buckets_at sheet pc).count ≤ length t.entries
      → link_down sheet (suc pc) t ≡ link_down sheet pc (link_each pc (buckets_at sheet pc).first (buckets_at sheet pc).count t)
  unfolding link_down
  down_room pc t h = rw (le-leb _ _ h)

  down_full : (pc : ℕ) (t : Links) → length t.entries < t.used + (buckets_at sheet pc).count
      → link_down sheet (suc pc) t ≡ graph t.heads t.entries (suc pc)
  unfolding link_down
  down_full pc t h = rw (lt-leb _ _ h)

  -- the instructions from pc on are linked
  pub record Building (n : ℕ) (was is : Links) (pc : ℕ) : Type 0 where
    pub inside : pc ≤ n
    pub so_far : link_down sheet n was ≡ link_down sheet pc is

  module _ {n pc : ℕ} {was is : Links} (b : Building n was is pc) (some : 0 < pc) (room : is.used ≤ length is.entries) {at : Buckets} (at_is : at ≡ buckets_at sheet (pc - 1)) where
    here : link_down sheet n was ≡ link_down sheet (suc (pc - 1)) is
    here = let last : pc ≡ suc (pc - 1) = omega arith in b.so_far ∙ ap (λ (q : ℕ). link_down sheet q is) last

    pub building_more : {then : Links} → at.count ≤ length is.entries - is.used → then ≡ link_each (pc - 1) at.first at.count is → Building n was then (pc - 1)
    building_more fits e = record {
      inside = omega (arith, b.inside);
      so_far =
          here ∙ down_room (pc - 1) is (omega (arith, ap (λ (x : Buckets). x.count) at_is))
          ∙ ap (λ (x : Buckets). link_down sheet (pc - 1) (link_each (pc - 1) x.first x.count is)) (sym at_is)
          ∙ ap (link_down sheet (pc - 1)) (sym e);
    }

    pub building_full : (old : List ℕ) {entries : List Link} {from : ℕ} → length is.entries - is.used < at.count → n ≡ code_count sheet → was ≡ links (zeros old) entries 0 → from ≡ pc
        → graph is.heads is.entries from ≡ graph_of sheet old entries
    unfolding graph_of
    building_full old {entries} {from} full k z f =
        let last : from ≡ suc (pc - 1) = omega arith in
        rw (sym z, sym k) (ap (graph is.heads is.entries) last ∙ sym (here ∙ down_full (pc - 1) is (omega (arith, ap (λ (x : Buckets). x.count) at_is))))

  pub building_done : {n pc : ℕ} {was is : Links} (old : List ℕ) {entries : List Link} {from : ℕ} → Building n was is pc → pc ≤ 0 → n ≡ code_count sheet → was ≡ links (zeros old) entries 0 → from ≡ pc
      → graph is.heads is.entries from ≡ graph_of sheet old entries
  unfolding graph_of link_down
  building_done {is = is} old {entries} {from} b none k z f =
      let e : from ≡ 0 = omega arith in
      rw (sym z, sym k) (ap (graph is.heads is.entries) e ∙ sym (b.so_far ∙ ap (λ (q : ℕ). link_down sheet q is) (sym f ∙ e)))

  -- the same of chains, in the same memory
  pub record BuildingChains (n : ℕ) (was is : Chains) (pc : ℕ) : Type 0 where
    pub linked : Building n (links_of was) (links_of is) pc
    pub first_is : is.first ≡ pc
    pub same_heads : is.heads.ghost_name ≡ was.heads.ghost_name
    pub same_links : is.links.ghost_name ≡ was.links.ghost_name
