use Rattle.std.proofs.Common.{rules, ◌≡◌, ap, arith}
use Rattle.trace.specs.Answers.{told_record}
use Rattle.trace.specs.Big.{big}
use Rattle.trace.specs.Layout.{enrol, amount, remark}
use Rattle.trace.proofs.Counting.{counted_push}
use Rattle.trace.proofs.survey.Counts.note.Goals as goal

pub returns-in-Enrol-clause-counted : goal.returns-in-Enrol-clause-counted
returns-in-Enrol-clause-counted c es p e proper told so =
    let same : e ≡ enrol c.in-Enrol.id.now c.in-Enrol.slots.now = cc (ap told_record c.in-Enrol.is) in
    rw same (counted_push es _ _ _ so (omega arith) (omega arith) (omega arith) (omega arith))

pub returns-in-Amount-clause-counted : goal.returns-in-Amount-clause-counted
returns-in-Amount-clause-counted c es p e proper told so =
    let same : e ≡ amount c.in-Amount.id.now c.in-Amount.units.now = cc (ap told_record c.in-Amount.is) in
    let sizes = rw same at proper in
    let value : c.from.result ≡ big c.in-Amount.units.now = search rules in
    rw same (counted_push es _ _ _ so (omega arith) (omega arith) (omega arith) (omega arith))

pub returns-in-Remark-clause-counted : goal.returns-in-Remark-clause-counted
returns-in-Remark-clause-counted c es p e proper told so =
    let same : e ≡ remark c.in-Remark.text.now = cc (ap told_record c.in-Remark.is) in
    rw same (counted_push es _ _ _ so (omega arith) (omega arith) (omega arith) (omega arith))
