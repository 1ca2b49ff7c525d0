-- Test by test; the zeros from M on are what is left.
use mathlib.Core.Path.{sym, ◌∙◌}
use mathlib.Core.Bool.{false≢true}
use native.Mathlib.Omega.{arith}
use Rattle.octets.proofs.Tests.{is_false}
use Rattle.padded_name.proofs.PaddedNames.{first_fits, last_fits, behind-fits, neighbours-fit, zeros-left}
use Rattle.padded_name.proofs.short_formed.Goals as goal

pub returns-then-padded-lt48 : goal.returns-then-padded-lt48
returns-then-padded-lt48 g c =
    sym (is_false _ (λ e. omega (arith, c.if-padded-lt48.true, first_fits c.requires e)))

pub returns-then-padded-n-lt48 : goal.returns-then-padded-n-lt48
returns-then-padded-n-lt48 g c =
    sym (is_false _ (λ e. omega (arith, c.if-padded-n-lt48.true, last_fits c.requires e)))

pub returns-then-padded-n-ne0 : goal.returns-then-padded-n-ne0
returns-then-padded-n-ne0 g c =
    sym (is_false _ (λ e. c.if-padded-n-ne0.true (behind-fits c.requires e)))

pub returns-then-not-all_neighbours : goal.returns-then-not-all_neighbours
returns-then-not-all_neighbours g c =
    sym (is_false _ (λ e. false≢true (c.if-not-all_neighbours.ensures ∙ neighbours-fit c.requires e)))

pub returns : goal.returns
returns g c =
    c.zeros_at.ensures
    ∙ zeros-left c.requires c.if-padded-lt48.false c.if-padded-n-lt48.false c.if-padded-n-ne0.false (sym c.if-not-all_neighbours.ensures)
