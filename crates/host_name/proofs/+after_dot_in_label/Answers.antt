-- Each answers for the bytes that it has not read.
use Rattle.std.proofs.Common.{sym, ◌∙◌, ◌+◌, arith, rules}
use Rattle.host_name.specs.Scan.{name_byte}
use Rattle.host_name.proofs.Steps.{at-end, at_byte, all-later}
use Rattle.host_name.proofs.Labels.{none-refused, first-refused}
use Rattle.host_name.proofs.Places.{too_long, hyphen-last, last-label, next-label}
use Rattle.host_name.proofs.+after_dot_in_label.Goals as goal

pub after_dot-returns-then-at-eq256 : goal.after_dot-returns-then-at-eq256
after_dot-returns-then-at-eq256 t c = sym (rw (at-end c.args.name.now c.args.at (omega arith)) none-refused)

pub after_dot-returns : goal.after_dot-returns
after_dot-returns t c =
    sym
    (rw (at_byte c.args.name.now c.args.at (omega arith))
    (first-refused _ _ (sym c.letter_or_digit.ensures ∙ c.if-letter_or_digit.false)))

pub in_label-returns-then-end-at-gt63 : goal.in_label-returns-then-end-at-gt63
in_label-returns-then-end-at-gt63 t c = sym (too_long c.requires c.label_end-end.ensures (omega arith))

pub in_label-returns-then-name-end-eq45 : goal.in_label-returns-then-name-end-eq45
in_label-returns-then-name-end-eq45 t c = sym (hyphen-last c.requires c.label_end-end.ensures c.if-name-end-eq45.true)

pub in_label-returns-then-end-eq256 : goal.in_label-returns-then-end-eq256
in_label-returns-then-end-eq256 t c =
    sym (last-label c.requires c.label_end-end.ensures (omega arith) c.if-name-end-eq45.false c.if-end-eq256.true)

pub in_label-after_dot-requires : goal.in_label-after_dot-requires
in_label-after_dot-requires t c = (
  search rules,
  record {
    full = search rules;
    within = search rules;
    only = all-later name_byte c.args.name.now c.args.at (c.label_end-end.result + 1) (omega arith) c.requires.0.only;
  },
)

pub in_label-returns : goal.in_label-returns
in_label-returns t c =
    c.after_dot.ensures
    ∙ sym (next-label c.requires c.label_end-end.ensures (omega arith) c.if-name-end-eq45.false c.if-end-eq256.false)
