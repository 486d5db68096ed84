-- `transfer_facts::effects::effect_of` meets its contract: CopyN by one law, any other by its analysis. Assumes nothing.
use Rattle.transfer_facts.proofs.EffectRules.{copies_n, constant_effect, index_effect}
use Rattle.fact_row.specs.Tracked.{facts_read}
use Rattle.transfer_facts.proofs.effects.effect_of.Goals as goal

pub returns-then-inst-eq-COPY_N : goal.returns-then-inst-eq-COPY_N
returns-then-inst-eq-COPY_N c =
    copies_n c.args.sheet.now.bytes.now c.args.pc c.args.row.now.slots.now (facts_read c.args.row.now) c.args.inst c.requires.1 c.args.which c.if-inst-eq-COPY_N.true

pub returns-in-Constant : goal.returns-in-Constant
returns-in-Constant c =
    constant_effect c.args.sheet.now.bytes.now c.args.pc c.args.row.now.slots.now (facts_read c.args.row.now) c.args.inst c.requires.1 c.in-Constant.is c.if-inst-eq-COPY_N.false c.constant_fact_written_to_slot.ensures

pub returns-in-IndexCheck : goal.returns-in-IndexCheck
returns-in-IndexCheck c =
    index_effect c.args.sheet.now.bytes.now c.args.pc c.args.row.now.slots.now (facts_read c.args.row.now) c.args.inst c.requires.1 c.in-IndexCheck.is c.if-inst-eq-COPY_N.false c.index_check_fact_written_to_slot.ensures
