use Rattle.std.proofs.Common.{rules, length, ◌≡◌, ◌<◌, ◌∷◌, refl, Err, take, get_or, sym, ap}
use Rattle.trace.specs.Kinds.{code}
use Rattle.trace.specs.Layout.{enrol, amount, remark, body_length}
use Rattle.trace.specs.declared.fault.Fault.TheVariants.{UnknownKind, CutShort}
use Rattle.trace.proofs.Giving.{gives_nothing, gives_unknown, gives_short, gives_entry, gives_end, gives_trailing, from, tail}
use Rattle.trace.proofs.reader.Reader.next.Goals as goal
use Rattle.trace.proofs.reader.Reader.next.Goals.{in-Enrol+in_ok-body_of-in-Enrol, in-Amount+in_ok-body_of-in-Amount, in-Remark+in_ok-body_of-in-Remark}

pub returns-in_default : goal.returns-in_default
returns-in_default c = gives_nothing _ _ c.in_default.len_below

pub returns-in_err-kind : goal.returns-in_err-kind
returns-in_err-kind c =
    let fault : c.from_residual.result ≡ Err (UnknownKind c.args.self.now.place) = search rules in
    rw fault (gives_unknown _ _ c.in-len1-up.len_at_least _ refl (search rules))

pub returns-in_err-body_of-in-Enrol : goal.returns-in_err-body_of-in-Enrol
returns-in_err-body_of-in-Enrol c =
    let fault : c.from_residual-in_err-body_of-in-Enrol.result ≡ Err (CutShort c.args.self.now.place) = search rules in
    rw fault (gives_short _ _ c.in-len1-up.len_at_least (code c.in_ok-kind.kind) (search rules) c.in_ok-kind.kind refl (search rules))

pub returns-in_err-body_of-in-Amount : goal.returns-in_err-body_of-in-Amount
returns-in_err-body_of-in-Amount c =
    let fault : c.from_residual-in_err-body_of-in-Amount.result ≡ Err (CutShort c.args.self.now.place) = search rules in
    rw fault (gives_short _ _ c.in-len1-up.len_at_least (code c.in_ok-kind.kind) (search rules) c.in_ok-kind.kind refl (search rules))

pub returns-in_err-body_of-in-Remark : goal.returns-in_err-body_of-in-Remark
returns-in_err-body_of-in-Remark c =
    let fault : c.from_residual-in_err-body_of-in-Remark.result ≡ Err (CutShort c.args.self.now.place) = search rules in
    rw fault (gives_short _ _ c.in-len1-up.len_at_least (code c.in_ok-kind.kind) (search rules) c.in_ok-kind.kind refl (search rules))

pub returns-in-End : goal.returns-in-End
returns-in-End c = gives_end _ _ c.in-len1-up.len_at_least (search rules) (search rules)

pub returns-in-End-2 : goal.returns-in-End-2
returns-in-End-2 c = gives_trailing _ _ c.in-len1-up.len_at_least (search rules) (search rules)

pub returns : goal.returns
returns c =
    let t = c.args.self.now.trace.now in
    let p = c.args.self.now.place in
    let some = c.in-len1-up.len_at_least in
    let m = c.body_len.result in
    elim c.match-kind.branch [
      | in-Enrol+in_ok-body_of-in-Enrol w ↦ rw w.record-is (gives_entry t p some 1 (search rules) (enrol _ _) 14 m w.in_ok-body_of-in-Enrol.field-0.now (search rules) (ap (λ l. 1 ∷ l) (sym w.split_at.ensures.by_index.0)) (search rules) (search rules))
      | in-Amount+in_ok-body_of-in-Amount w ↦ rw w.record-is (gives_entry t p some 2 (search rules) (amount _ _) 12 m w.in_ok-body_of-in-Amount.field-0.now (search rules) (ap (λ l. 2 ∷ l) (sym w.split_at-in-Amount.ensures.by_index.0)) (search rules) (search rules))
      | in-Remark+in_ok-body_of-in-Remark w ↦ rw w.record-is (gives_entry t p some 3 (search rules) (remark _) 16 m w.in_ok-body_of-in-Remark.field-0.now (search rules) refl (search rules) (search rules))
    ]
