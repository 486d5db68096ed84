-- What a chain tells of one slot: the instructions that have edges to it, in code order, with others between them.
-- Assumes nothing.
use Rattle.std.specs.Prelude.{◌≡◌, List, [], ℕ, suc, ◌+◌, ◌≤◌, ◌<◌, length, get_or}
use Rattle.model.specs.Sheet.{code_count, local_slots, instruction}
use Rattle.model.specs.Dependencies.{FactDependency, instruction_edges, edges_into}
use Rattle.closure_edges.specs.Links.{bucket, link_at}
use Rattle.closure_edges.specs.declared.Link.{Link}
use Rattle.closure_edges.specs.declared.Chains.{Chains}

-- the edges of the instruction at pc to d
unfoldable pub edges_at : List ℕ → ℕ → ℕ → List FactDependency
edges_at sheet d pc = edges_into d (instruction_edges (local_slots sheet) (instruction sheet pc))

-- no edge leads to d from the instructions from lo up to but not including hi
pub record Silent (sheet : List ℕ) (d lo hi : ℕ) : Type 0 where
  pub none : (pc : ℕ) → lo ≤ pc → pc < hi → edges_at sheet d pc ≡ []

-- From a link on: which instructions from pc on have edges to d. A link's next one was made before it.
pub data Chain (sheet : List ℕ) (entries : List Link) (d : ℕ) : ℕ → ℕ → Type 0 where
  ended : {e pc : ℕ} → e ≡ 0 → Silent sheet d pc (code_count sheet) → Chain sheet entries d e pc
  linked : {e i pc : ℕ} → e ≡ suc i → i < length entries → (link_at entries i).next ≤ i → pc ≤ (link_at entries i).pc → (link_at entries i).pc < code_count sheet
      → Silent sheet d pc (link_at entries i).pc → Chain sheet entries d (link_at entries i).next ((link_at entries i).pc + 1) → Chain sheet entries d e pc

-- The tables tell the edges of the instructions from `from` on, to each slot.
pub record ChainsTold (sheet heads : List ℕ) (entries : List Link) (from : ℕ) : Type 0 where
  pub inside : from ≤ code_count sheet
  pub chain : (d : ℕ) → d < local_slots sheet → Chain sheet entries d (get_or heads (bucket d) 0) from

-- The same of tables that are wide enough for each bucket, and whose links have numbers of 16 bits.
pub record Chained (sheet heads : List ℕ) (entries : List Link) (from : ℕ) : Type 0 where
  pub wide : from < code_count sheet → length heads ≡ 2048
  pub few : length entries ≤ 65535
  pub told : ChainsTold sheet heads entries from

-- What chains tell: that they are wide and few stands in their type.
abbrev pub Tells : List ℕ → Chains → Type 0
Tells sheet c = ChainsTold sheet c.heads.now c.links.now c.first
