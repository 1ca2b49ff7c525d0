-- What a call's answer says of the rule that it computes.
use mathlib.Core.Path.{◌≡◌, sym, ◌∙◌}
use mathlib.Core.Bool.{Bool, true, false}

-- a rule's value, where a call answered r for it and the code went by r
pub no : {r d : Bool} → r ≡ d → r ≡ false → d ≡ false
no e h = sym e ∙ h

pub yes : {r d : Bool} → r ≡ d → r ≡ true → d ≡ true
yes e h = sym e ∙ h
