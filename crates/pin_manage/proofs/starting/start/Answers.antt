-- An area of another length is refused; any other becomes zeros but for the edition.
use Rattle.pin_manage.proofs.Started.{start-refused, started}
use Rattle.pin_manage.proofs.starting.start.Goals as goal

pub returns-then-area-ne-AREA_LENGTH : goal.returns-then-area-ne-AREA_LENGTH
returns-then-area-ne-AREA_LENGTH c =
    let w = start-refused c.args.edition_two c.args.area.now c.if-area-ne-AREA_LENGTH.true in
    record { answer = w.0; area = w.1 }

pub returns : goal.returns
returns c =
    let w = started c.args.edition_two c.args.area.now c.if-area-ne-AREA_LENGTH.false (c.fill.ensures.after (λ y e. e)) c.from.ensures in
    record { answer = w.0; area = w.1 }
