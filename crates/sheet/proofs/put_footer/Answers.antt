-- Why put_footer is right: each part is put behind the parts before it.
use Prim.Native.Nat.{ℕ, ◌+◌, ◌-◌}
use mathlib.Core.Path.{◌≡◌, sym}
use mathlib.Core.List.{List, append_assoc}
use lib.ListN.{length, take, drop}
use native.Mathlib.Omega.{arith}
use lib.Seq.{drop-drop}
use borrow.Rule.Slice.PartMut.{put_mid}
use Rattle.sheet.specs.Code.{put}
use Rattle.sheet.proofs.FooterPut.{head, head_fits, count_fits, bar_fits, total_fits, feed_fits, all_put}
use Rattle.sheet.proofs.put_footer.Goals as goal

head_put : (old : List ℕ) (at : ℕ) (new : List ℕ) → new ≡ head → put_mid at (at + 4 - at) old new ≡ put old at head
head_put old at new e =
    let four : at + 4 - at ≡ 4 = omega arith in
    let rest : drop 4 (drop at old) ≡ drop (at + length head) old = drop-drop 4 at old in
    rw (four, e, rest) (sym (append_assoc (take at old) head (drop (at + length head) old)))

pub slice_bounds-copy_from_slice-end : goal.slice_bounds-copy_from_slice-end
slice_bounds-copy_from_slice-end c =
    let a = c.args in
    omega (arith, head_fits a.out.now a.at a.records a.sum c.digit_count.result c.digit_count-2.result c.requires c.digit_count.ensures.0 c.digit_count-2.ensures.0)

pub put_decimal-requires : goal.put_decimal-requires
put_decimal-requires c =
    let a = c.args in
    let m = c.digit_count in
    let s = c.digit_count-2 in
    count_fits a.out.now a.at a.records a.sum m.result s.result c.requires m.ensures.0 s.ensures.0 _ (head_put a.out.now a.at _ c.copy_from_slice.ensures.after)

pub bounds-out-bar : goal.bounds-out-bar
bounds-out-bar c =
    let a = c.args in
    let m = c.digit_count in
    let s = c.digit_count-2 in
    bar_fits a.out.now a.at a.records a.sum m.result s.result c.requires m.ensures.0 s.ensures.0 _ (head_put a.out.now a.at _ c.copy_from_slice.ensures.after) c.put_decimal.new.out c.put_decimal.ensures

pub put_decimal-requires-2 : goal.put_decimal-requires-2
put_decimal-requires-2 c =
    let a = c.args in
    let m = c.digit_count in
    let s = c.digit_count-2 in
    total_fits a.out.now a.at a.records a.sum m.result s.result c.requires m.ensures.0 s.ensures.0 _ (head_put a.out.now a.at _ c.copy_from_slice.ensures.after) c.put_decimal.new.out c.put_decimal.ensures

pub bounds-out-end : goal.bounds-out-end
bounds-out-end c =
    let a = c.args in
    let m = c.digit_count in
    let s = c.digit_count-2 in
    feed_fits a.out.now a.at a.records a.sum m.result s.result c.requires m.ensures.0 s.ensures.0 _ (head_put a.out.now a.at _ c.copy_from_slice.ensures.after) c.put_decimal.new.out c.put_decimal.ensures c.put_decimal-2.new.out c.put_decimal-2.ensures

pub returns : goal.returns
returns c =
    let a = c.args in
    let m = c.digit_count in
    let s = c.digit_count-2 in
    all_put a.out.now a.at a.records a.sum m.result s.result c.requires m.ensures.0 s.ensures.0 _ (head_put a.out.now a.at _ c.copy_from_slice.ensures.after) c.put_decimal.new.out c.put_decimal.ensures c.put_decimal-2.new.out c.put_decimal-2.ensures
