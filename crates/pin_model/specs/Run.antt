-- A list of calls from an empty table: what each is answered, and the area that it leaves. It 'may begin with either empty table'
-- (document 02, Q-3): `two` is the yes for that of edition two.
use Rattle.std.specs.Prelude.{Bool, List, [], ◌∷◌, ℕ}
use Rattle.pin_model.specs.Layout.{empty_area}
use Rattle.pin_model.specs.Calls.{Call, answered, area_left}

-- 'Each call gets the table as the last one left it.' The newest call comes first.
unfoldable pub area_of : Bool → List Call → List ℕ
area_of two [] = empty_area two
area_of two (c ∷ cs) = area_left c (area_of two cs)

unfoldable pub number_of : Bool → Call → List Call → ℕ
number_of two c earlier = (answered c (area_of two earlier)).number
