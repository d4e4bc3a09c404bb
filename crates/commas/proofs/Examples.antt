-- What stops some lines, computed. Assumes nothing.
use mathlib.Core.Path.{◌≡◌, refl}
use mathlib.Core.List.{[], ◌∷◌, ◌++◌}
use Rattle.std.specs.Prelude.{Some, None}
use Rattle.text.specs.Characters.{bytes}
use Rattle.rfc4180.specs.Rfc.{quote, return, feed, textdata}
use Rattle.rfc4180.specs.Walk.{next_of}
use Rattle.commas.specs.Stopping.{fault_at, is_break, fault_of, stop_by, stop_end, stop_from, stop_in}
use Rattle.commas.specs.declared.stop.Fault.TheVariants.{Tab, Feed, Return, Foreign, Inside, Behind, Open}

-- a tab, in the second line; a line feed alone; a carriage return alone, also at the end; a byte above 126, and the first of them
pub bytes_that_stop : (stop_in (bytes "a,b" ++ return ∷ feed ∷ bytes "c" ++ 0x09 ∷ []) 5 ≡ Some (fault_at Tab 6))
    × (stop_in (bytes "a,b" ++ feed ∷ []) 0 ≡ Some (fault_at Feed 3)) × (stop_in (bytes "a" ++ return ∷ bytes "b") 0 ≡ Some (fault_at Return 1))
    × (stop_in (bytes "a" ++ return ∷ []) 0 ≡ Some (fault_at Return 1)) × (stop_in (bytes "caf" ++ 0xC3 ∷ 0xA9 ∷ []) 0 ≡ Some (fault_at Foreign 3))
    × (stop_in (bytes "a" ++ 0x7F ∷ []) 0 ≡ Some (fault_at Foreign 1))
unfolding next_of textdata is_break fault_of stop_by stop_end stop_from stop_in
bytes_that_stop = (refl, refl, refl, refl, refl, refl)

-- a quotation mark inside a field, a byte behind one that closes, and one that opens and is closed neither before the line's end nor
-- before the text's
pub marks_that_stop : (stop_in (bytes "a,b" ++ quote ∷ []) 0 ≡ Some (fault_at Inside 3)) × (stop_in (quote ∷ bytes "a" ++ quote ∷ bytes "b") 0 ≡ Some (fault_at Behind 3))
    × (stop_in (bytes "a," ++ quote ∷ bytes "b" ++ return ∷ feed ∷ bytes "c") 0 ≡ Some (fault_at Open 2)) × (stop_in (bytes "a," ++ quote ∷ quote ∷ quote ∷ []) 0 ≡ Some (fault_at Open 2))
unfolding next_of textdata is_break fault_of stop_by stop_end stop_from stop_in
marks_that_stop = (refl, refl, refl, refl)

-- a text that goes through
pub nothing_stops : stop_in (bytes "a," ++ quote ∷ bytes "b" ++ quote ∷ return ∷ feed ∷ []) 0 ≡ None
unfolding next_of textdata is_break fault_of stop_by stop_end stop_from stop_in
nothing_stops = refl
