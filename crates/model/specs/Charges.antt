-- "Charges": `VerifierResources`, and how the parts of a call that spend follow each other.
-- Assumes nothing.
use Rattle.std.specs.Prelude.{Bool, true, false, ℕ, zero, suc, ◌-◌, leb, Result, Ok, Err}
use Rattle.model.specs.declared.VerifierResources.{VerifierResources}
use Rattle.model.specs.declared.Shortage.{Shortage}

-- "a fresh one has 268,435,456 of each"
abbrev pub fresh : VerifierResources
fresh = record { bytes = 268435456; work = 268435456 }

-- The bytes of one of each thing that is charged by number.
pub record ByteUnits : Type 0 where
  pub successor_record : ℕ
  pub dependency : ℕ
  pub constant_fact : ℕ
  pub index_fact : ℕ
  pub container_fact : ℕ
  pub mark : ℕ
  pub work_slot : ℕ
  pub slot_kind : ℕ

-- "Byte units: successor record 24, dependency 4, constant fact 32, index fact 4, container fact 40, mark 1, work slot 2, slot kind 1"
abbrev pub units : ByteUnits
units = record { successor_record = 24; dependency = 4; constant_fact = 32; index_fact = 4; container_fact = 40; mark = 1; work_slot = 2; slot_kind = 1 }

-- ---- one charge

-- "7, with .. requested, remaining": a charge that is not covered
abbrev pub short : ℕ → ℕ → Shortage
short requested remaining = record { requested = requested; remaining = remaining }

-- What a charge comes to: what is left, or the refusal.
abbrev pub Charge : Type 0
Charge = Result VerifierResources Shortage

-- "7. Does what is left cover the charge?" "A refused charge takes nothing."
unfoldable pub bytes_charged : Bool → ℕ → VerifierResources → Charge
bytes_charged true amount left = Ok (record { bytes = left.bytes - amount; work = left.work })
bytes_charged false amount left = Err (short amount left.bytes)

-- `charge_bytes`: the amount is the count times the unit
unfoldable pub charge_bytes : ℕ → VerifierResources → Charge
charge_bytes amount left = bytes_charged (leb amount left.bytes) amount left

-- the same for work
unfoldable pub work_charged : Bool → ℕ → VerifierResources → Charge
work_charged true amount left = Ok (record { bytes = left.bytes; work = left.work - amount })
work_charged false amount left = Err (short amount left.work)

-- `charge_work`
unfoldable pub charge_work : ℕ → VerifierResources → Charge
charge_work amount left = work_charged (leb amount left.work) amount left

-- ---- parts that spend

-- A refusal on the way: "7, with stage (1 to 5 in charge order), requested, remaining", or 8.
pub data Refusal : Type 0 where
  over_budget : ℕ → ℕ → ℕ → Refusal
  no_room : Refusal

-- What a part of the call comes to: what it gives, or a refusal, each with "what the covered charges left". `unfinished` says that a
-- loop's fuel was too little, which the theorems about runs, closures and calls exclude.
pub data Spent (A : Type 0) : Type 0 where
  ok : A → VerifierResources → Spent A
  stop : Refusal → VerifierResources → Spent A
  unfinished : Spent A

-- A part of the call that spends from the budget left.
abbrev pub Metered : Type 0 → Type 0
Metered A = VerifierResources → Spent A

module _ {A : Type 0} where
  -- gives a and spends nothing
  unfoldable pub give : A → Metered A
  give a left = ok a left

  -- a loop whose fuel was too little
  unfoldable pub give_up : Metered A
  give_up left = unfinished

  module _ {B : Type 0} where
    -- what follows a part: the next one with what it gave and left, or its refusal
    unfoldable pub continue : (A → Metered B) → Spent A → Spent B
    continue next (ok a left) = next a left
    continue next (stop refusal left) = stop refusal left
    continue next unfinished = unfinished

    -- first one part, then the next with what the first gave and left; a refusal ends both
    infixl 20 ◌>>=◌
    unfoldable pub ◌>>=◌ : Metered A → (A → Metered B) → Metered B
    ◌>>=◌ part next left = continue next (part left)

    infixl 20 ◌>>◌
    unfoldable pub ◌>>◌ : Metered A → Metered B → Metered B
    ◌>>◌ part next left = continue (λ _. next) (part left)

-- a charge as a part of the call: what is left is the budget it was made from where it is refused
unfoldable pub in_stage : ℕ → VerifierResources → Charge → Spent (Unit {0})
in_stage stage left (Ok rest) = ok tt rest
in_stage stage left (Err e) = stop (over_budget stage e.requested e.remaining) left

-- bytes charged to a stage
unfoldable pub spend_bytes : ℕ → ℕ → Metered (Unit {0})
spend_bytes stage amount left = in_stage stage left (charge_bytes amount left)

-- work charged to a stage
unfoldable pub spend_work : ℕ → ℕ → Metered (Unit {0})
spend_work stage amount left = in_stage stage left (charge_work amount left)

-- f 0, .., f (count − 1), one after the other
unfoldable pub for_each : (ℕ → Metered (Unit {0})) → ℕ → Metered (Unit {0})
for_each f zero = give tt
for_each f (suc i) = for_each f i >> f i

unfoldable pub charges_compute : Unit {0}
unfolding bytes_charged charge_bytes work_charged charge_work give give_up continue ◌>>=◌ ◌>>◌ in_stage spend_bytes spend_work for_each
charges_compute = tt
