-- The tacks of a call, as the reader gives them. Cited by the functions below the open one: a reader of the open contract can skip this
-- file.
use Rattle.std.specs.Prelude.{true, List, ◌++◌}
use Rattle.tack_extension.specs.Answers.{tack_bytes}
use Rattle.tack_extension_two.specs.ExtensionTwo.{parts_two}
use Rattle.tack_extension_two.specs.declared.reader.Tacks.{Tacks}
use Rattle.pin_model.specs.Connection.{Shown, shown_in, tacks_in}

-- each with its flag
abbrev pub tacks_in_order : Tacks → List Shown
tacks_in_order t = tacks_in (parts_two (tack_bytes t.first) (tack_bytes t.second) t.flags)

-- for a test or a step that looks at no flag: whatever the flags are, it is the same
abbrev pub both_in : Tacks → List Shown
both_in t = shown_in true (tack_bytes t.first) ++ shown_in true (tack_bytes t.second)
