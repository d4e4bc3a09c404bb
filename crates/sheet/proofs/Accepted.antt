-- What it says of a file that it is accepted for what is asked. Assumes nothing.
use Prim.Native.Nat.{ℕ, ◌+◌, ◌<◌}
use mathlib.Core.Path.{◌≡◌, ap, subst}
use mathlib.Core.Bool.{true}
use mathlib.Core.List.{List, [], ◌∷◌, ◌++◌}
use native.Mathlib.Omega.{arith}
use lib.ListN.{length, length-append}
use Rattle.text.specs.Characters.{all}
use Rattle.record.specs.Records.{records}
use Rattle.record.proofs.Cutting.{records_le}
use Rattle.checksum.specs.Checksum.{checksum}
use Rattle.flow.specs.Publication.{Flow, layout_for}
use Rattle.flow.specs.Editions.{Asked, a_flow}
use Rattle.flow.specs.Proper.{Proper}
use Rattle.flow.proofs.Proper.{ProperAsked}
use Rattle.judge.specs.File.{judged, accepted}
use Rattle.judge.proofs.Passes.{Passes, passes}
use Rattle.judge.proofs.Demand2.{accepted_flow}
use Rattle.sheet.specs.Sheets.{footer, but_last}
use Rattle.sheet.proofs.Characters.{text_record}
use Rattle.sheet.proofs.AcceptedFiles.{records_split, lines_text}

-- it passes by the layout of a proper flow
pub record PassesFor (a : Asked) (f : List ℕ) (n : ℕ) : Type 0 where
  pub flow : Flow
  pub is_flow : a ≡ a_flow flow
  pub proper : Proper flow
  pub passed : Passes (layout_for flow) f n

module _ (a : Asked) (proper : ProperAsked a) (f : List ℕ) (n : ℕ) (accepts : judged a f ≡ accepted n) where
  pub accepted_passes : PassesFor a f n
  accepted_passes =
      let x = accepted_flow f n a accepts in
      record { flow = x.0; is_flow = x.1; proper = subst ProperAsked x.1 proper; passed = passes (layout_for x.0) f n x.2 }

  abbrev lines : List (List ℕ)
  lines = but_last (records f)

  -- its records are lines of text characters and the footer that is made for them
  pub accepted_split : records f ≡ lines ++ footer (length lines + 1) (checksum lines) ∷ []
  accepted_split =
      let p = accepted_passes in
      records_split (layout_for p.flow) p.proper.footer f n p.passed

  pub accepted_text : all text_record lines ≡ true
  accepted_text =
      let p = accepted_passes in
      lines_text (layout_for p.flow) p.proper.footer f n p.passed

  -- so it is not empty
  pub accepted_some : 0 < length f
  accepted_some = omega (arith, records_le f, ap length accepted_split, length-append lines (footer (length lines + 1) (checksum lines) ∷ []))
