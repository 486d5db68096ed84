-- The instructions that have edges, in a chain for each bucket of slots: how the tables are filled.
-- Assumes nothing.
use Rattle.std.specs.Prelude.{Bool, true, false, cond, List, ℕ, zero, suc, ◌+◌, ◌-◌, ◌/◌, min, leb, ltb, length, get_or, set}
use Rattle.model.specs.Sheet.{code_count, local_slots, instruction}
use Rattle.model.specs.Call.{zeros}
use Rattle.model.specs.declared.Instruction.{Instruction}
use Rattle.closure_edges.specs.Rows.{dependence}
use Rattle.closure_edges.specs.declared.Buckets.{Buckets}
use Rattle.closure_edges.specs.declared.Link.{Link}
use Rattle.closure_edges.specs.declared.Chains.{Chains}

-- ---- buckets

-- one for each slot, or one for 64 of them
unfoldable pub bucket_if : Bool → ℕ → ℕ
bucket_if true slot = slot
bucket_if false slot = 1008 + slot / 64

-- the bucket of a slot: each of the first 1,024 has its own, and there are less than 2,048
unfoldable pub bucket : ℕ → ℕ
bucket slot = bucket_if (ltb slot 1024) slot

-- the buckets of the slots from a up to but not including end, where there are any
unfoldable pub buckets_if : Bool → ℕ → ℕ → Buckets
buckets_if true a end = record { first = bucket a; count = bucket (end - 1) + 1 - bucket a }
buckets_if false a end = record { first = 0; count = 0 }

-- where the slots below l end that an instruction's edges may lead to
abbrev pub end_of : ℕ → Instruction → ℕ
end_of l inst = min (inst.a + (dependence inst).span) l

-- the buckets that an instruction's edges may lead to
unfoldable pub buckets_of : ℕ → Instruction → Buckets
buckets_of l inst = buckets_if (ltb inst.a (end_of l inst)) inst.a (end_of l inst)

-- ---- links

-- The link at a place; behind the last one there are zeros.
abbrev pub link_at : List Link → ℕ → Link
link_at entries i = get_or entries i (record { pc = 0; next = 0 })

-- The newest link of each bucket, or 0; of each link, the first being 1, its instruction and the one before it in its bucket.
pub record Links : Type 0 where
  pub heads : List ℕ
  pub entries : List Link
  pub used : ℕ

abbrev pub links : List ℕ → List Link → ℕ → Links
links heads entries used = record { heads = heads; entries = entries; used = used }

-- those of chains
abbrev pub links_of : Chains → Links
links_of c = links c.heads.now c.links.now c.used

-- a link from a bucket to an instruction
unfoldable pub link : ℕ → ℕ → Links → Links
link pc k t = links (set t.heads k (t.used + 1)) (set t.entries t.used (record { pc = pc; next = get_or t.heads k 0 })) (t.used + 1)

-- one from each of count buckets
unfoldable pub link_each : ℕ → ℕ → ℕ → Links → Links
link_each pc first zero t = t
link_each pc first (suc i) t = link pc (first + i) (link_each pc first i t)

-- ---- all instructions

-- The tables, and the number of the first instruction that is in them.
pub record Graph : Type 0 where
  pub heads : List ℕ
  pub entries : List Link
  pub from : ℕ

abbrev pub graph : List ℕ → List Link → ℕ → Graph
graph heads entries from = record { heads = heads; entries = entries; from = from }

-- that of chains
abbrev pub graph_in : Chains → Graph
graph_in c = graph c.heads.now c.links.now c.first

module _ (sheet : List ℕ) where
  abbrev pub buckets_at : ℕ → Buckets
  buckets_at pc = buckets_of (local_slots sheet) (instruction sheet pc)

  -- the instructions below the count, the last first, as long as there is room for an instruction's links
  unfoldable pub link_down : ℕ → Links → Graph
  link_down zero t = graph t.heads t.entries 0
  link_down (suc pc) t =
      cond (leb (t.used + (buckets_at pc).count) (length t.entries))
      (link_down pc (link_each pc (buckets_at pc).first (buckets_at pc).count t))
      (graph t.heads t.entries (suc pc))

  -- all of them, into tables of any content
  unfoldable pub graph_of : List ℕ → List Link → Graph
  graph_of heads entries = link_down (code_count sheet) (links (zeros heads) entries 0)
