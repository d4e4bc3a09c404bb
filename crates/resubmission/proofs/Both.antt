-- What an answer says of the two files, in plain terms. Assumes nothing.
use Prim.Native.Nat.{ℕ, ◌+◌, ◌≤◌, ◌<◌}
use mathlib.Core.Path.{◌≡◌, refl, sym, ap, ◌∙◌, subst}
use mathlib.Core.Logic.{◌⊎◌, inl, inr}
use mathlib.Core.Bool.{Bool, true, false}
use mathlib.Core.List.{List, [], ◌∷◌}
use native.Mathlib.Omega.{arith}
use lib.Dec.{leb}
use lib.ListN.{length}
use borrow.Author.Tests.{le-leb, lt-leb, leb-true}
use Rattle.std.specs.Prelude.{Result, Ok, Err}
use Rattle.text.specs.Characters.{from_to}
use Rattle.text.specs.Rules.{must}
use Rattle.place.specs.Places.{whole}
use Rattle.place.specs.declared.Refusal.{Refusal}
use Rattle.flow.specs.Publication.{Flow, layout_for}
use Rattle.flow.specs.Editions.{Asked, a_flow, no_flow}
use Rattle.flow.specs.Proper.{Proper}
use Rattle.flow.proofs.Proper.{ProperAsked}
use Rattle.judge.specs.File.{placed_by, judged_for, judged, accepted, paper as judge_paper}
use Rattle.judge.specs.Right.{Right}
use Rattle.judge.proofs.Demand2.{right_asked, accepted_answer}
use Rattle.resubmission.specs.declared.Which.{Which}
use Rattle.resubmission.specs.declared.Which.TheVariants.{Original, Resubmission}
use Rattle.resubmission.specs.declared.Found.{Found}
use Rattle.resubmission.specs.declared.NotFound.{NotFound}
use Rattle.resubmission.specs.declared.NotFound.TheVariants.{Refused, NoSuch}
use Rattle.resubmission.specs.Rows.{Pair, Row, row, end_of, rows_in, row_at}
use Rattle.resubmission.specs.InForce.{of, found, holder, handed, read, in_force_by, in_force_for, in_force, paper, file_number, part, refused, between, bytes_by, Memory, lies_by, HandedBack}
use Rattle.resubmission.specs.Plain.{OfPair, IsInForce}
use Rattle.resubmission.proofs.Subjects.{both}
use Rattle.resubmission.proofs.Standing.{lies_there}
use Rattle.resubmission.proofs.Each.{each_row, every_record, row_within, in_order_lem as rows-in-order}

-- the rows of the holder are those of its file
of_rows : (flow : Flow) (p : Pair) (file : Which) (a b : List ℕ) → of file (rows_in flow p a) (rows_in flow p b) ≡ rows_in flow p (of file a b)
of_rows flow p Original a b = refl
of_rows flow p Resubmission a b = refl

-- a file is not refused: it is accepted, and what comes after is said
module _ {file : Which} {count start end : ℕ} where
  read_through : (w : Which) (j : Result ℕ Refusal) (after : Result Found NotFound) → read w j after ≡ Ok (found file count start end)
      → (k : ℕ) × (j ≡ Ok k) × (after ≡ Ok (found file count start end))
  read_through w (Err r) after e = absurd (let z : ◌≡◌ {A = ℕ} 0 1 = cc in omega arith)
  read_through w (Ok k) after e = (k, refl, e)

  -- a row is handed back
  handed_by_lem : (t : Bool) (w : Which) (rows : List Row) (x : Row) → must t (Err (NoSuch (whole 23) (length rows))) (Ok (found w (length rows) x.start (end_of x))) ≡ Ok (found file count start end)
      → (t ≡ true) × (file ≡ w) × (count ≡ length rows) × (start ≡ x.start) × (end ≡ end_of x)
  handed_by_lem true w rows x e =
      let same : found w (length rows) x.start (end_of x) ≡ found file count start end = cc in
      (refl, ap (λ (y : Found). y.file) (sym same), ap (λ (y : Found). y.number) (sym same), ap (λ (y : Found). y.start) (sym same), ap (λ (y : Found). y.end) (sym same))
  handed_by_lem false w rows x e = absurd (let z : ◌≡◌ {A = ℕ} 0 1 = cc in omega arith)

-- the answer in the papers' terms is of that form
module _ {count start end : ℕ} where
  paper_found : (number : ℕ) (x : Result Found NotFound) → paper x ≡ part number count start end → (w : Which) × (x ≡ Ok (found w count start end)) × (file_number w ≡ number)
  paper_found number (Err (Refused r w)) e = absurd (let z : ◌≡◌ {A = ℕ} 0 1 = cc in omega arith)
  paper_found number (Err (NoSuch r m)) e = absurd (let z : ◌≡◌ {A = ℕ} 0 1 = cc in omega arith)
  paper_found number (Ok it) e =
      let a : it.number ≡ count = cc in
      let b : it.start ≡ start = cc in
      let c : it.end ≡ end = cc in
      let d : file_number it.file ≡ number = cc in
      (it.file, λ i. Ok (found it.file (a i) (b i) (c i)), d)

-- what is known of a record that is found: both files are accepted, and it is row n of the holder's
record Known (flow : Flow) (a b : List ℕ) (p : Pair) (n : ℕ) (file : Which) (count start end : ℕ) : Type 0 where
  first : ℕ
  original : placed_by (layout_for flow) a ≡ Ok first
  second : ℕ
  resubmission : placed_by (layout_for flow) b ≡ Ok second
  holds : file ≡ holder (rows_in flow p b)
  least : 1 ≤ n
  most : n ≤ count
  counted : count ≡ length (rows_in flow p (of file a b))
  starts : start ≡ (row_at (rows_in flow p (of file a b)) n).start
  ends : end ≡ end_of (row_at (rows_in flow p (of file a b)) n)

module _ (flow : Flow) (a b : List ℕ) (p : Pair) where
  abbrev the_holder : Which
  the_holder = holder (rows_in flow p b)

  abbrev the_rows : List Row
  the_rows = rows_in flow p (of the_holder a b)

  known : (n : ℕ) {file : Which} {count start end : ℕ} → in_force_by flow a b p n ≡ Ok (found file count start end) → Known flow a b p n file count start end
  unfolding in_force_by handed
  known n e =
      let x = read_through Original (placed_by (layout_for flow) a) _ e in
      let y = read_through Resubmission (placed_by (layout_for flow) b) _ x.2 in
      let z = handed_by_lem (from_to 1 (length the_rows) n) the_holder the_rows (row_at the_rows n) (ap (λ (rows : List Row). handed the_holder rows n) (sym (of_rows flow p the_holder a b)) ∙ y.2) in
      let range = both (leb 1 n) (leb n (length the_rows)) z.0 in
      record {
        first = x.0;
        original = x.1;
        second = y.0;
        resubmission = y.1;
        holds = z.1;
        least = leb-true 1 n range.0;
        most = omega (arith, leb-true n (length the_rows) range.1, z.2);
        counted = z.2 ∙ ap (λ (w : Which). length (rows_in flow p (of w a b))) (sym z.1);
        starts = z.3 ∙ ap (λ (w : Which). (row_at (rows_in flow p (of w a b)) n).start) (sym z.1);
        ends = z.4 ∙ ap (λ (w : Which). end_of (row_at (rows_in flow p (of w a b)) n)) (sym z.1);
      }

  module _ {i j : ℕ} (first : placed_by (layout_for flow) a ≡ Ok i) (second : placed_by (layout_for flow) b ≡ Ok j) where
    -- both files accepted, the holder's rows tell
    by_holder : (n : ℕ) → in_force_by flow a b p n ≡ handed the_holder the_rows n
    unfolding in_force_by
    by_holder n = rw (first, second) (ap (λ (rows : List Row). handed the_holder rows n) (of_rows flow p the_holder a b))

    found_there : (n : ℕ) → 1 ≤ n → n ≤ length the_rows → in_force_by flow a b p n ≡ Ok (found the_holder (length the_rows) (row_at the_rows n).start (end_of (row_at the_rows n)))
    unfolding handed
    found_there n l m = by_holder n ∙ rw (le-leb 1 n l, le-leb n (length the_rows) m)

    none_there : (n : ℕ) → (n ≡ 0) ⊎ (length the_rows < n) → in_force_by flow a b p n ≡ Err (NoSuch (whole 23) (length the_rows))
    unfolding handed
    none_there n (inl e) = by_holder n ∙ rw e
    none_there n (inr l) = by_holder n ∙ rw (le-leb 1 n (omega (arith, l)), lt-leb n (length the_rows) l)

  -- the record found lies in its file
  pub found_within : (n : ℕ) {file : Which} {count start end : ℕ} → in_force_by flow a b p n ≡ Ok (found file count start end) → (start ≤ end) × (end ≤ length (of file a b))
  found_within n {file} e =
      let x = known n e in
      let within = row_within flow p (of file a b) n in
      (omega (arith, x.starts, x.ends), omega (arith, x.ends, within))

-- the same for what is asked
pub part_within : (asks : Asked) (a b : List ℕ) (p : Pair) (n : ℕ) {file : Which} {count start end : ℕ} → in_force_for asks a b p n ≡ Ok (found file count start end)
    → (start ≤ end) × (end ≤ length (of file a b))
unfolding in_force_for
part_within (a_flow flow) a b p n e = found_within flow a b p n e
part_within (no_flow r) a b p n e = absurd (let z : ◌≡◌ {A = ℕ} 0 1 = cc in omega arith)

-- what is handed back, by the answer
pub handed_back : (a b : List ℕ) (at_a at_b : Memory) (x said : Result Found NotFound) → x ≡ said → HandedBack said a b at_a at_b (bytes_by x a b) (lies_by x at_a at_b)
handed_back a b at_a at_b x said e = record { holds = ap (λ (y : Result Found NotFound). bytes_by y a b) e; lies = ap (λ (y : Result Found NotFound). lies_by y at_a at_b) e }

pub handed_part : (a b : List ℕ) (at_a at_b : Memory) (x said : Result Found NotFound) → x ≡ said → {bytes : List ℕ} {at : Memory} → (bytes ≡ bytes_by x a b) × (at ≡ lies_by x at_a at_b)
    → HandedBack said a b at_a at_b bytes at
handed_part a b at_a at_b x said e cut =
    let back = handed_back a b at_a at_b x said e in
    record { holds = cut.0 ∙ back.holds; lies = cut.1 ∙ back.lies }

-- the bytes from a row's start to its end are its own
own_bytes : (flow : Flow) (p : Pair) (f : List ℕ) (r : Row) → OfPair flow p f r → between f r.start (end_of r) ≡ r.bytes
own_bytes flow p f r x =
    ap (λ (n : ℕ). between f n (n + length r.bytes)) x.starts ∙ (lies_there f x.before r.bytes x.after x.stands).is

-- a file that is accepted is right
is_right : (flow : Flow) → Proper flow → (f : List ℕ) (n : ℕ) → placed_by (layout_for flow) f ≡ Ok n → Right (a_flow flow) f n
unfolding judged judged_for
is_right flow proper f n e = (right_asked f n (a_flow flow) proper).0 (ap judge_paper e)

-- the original holds rows only where the resubmission has none
no_row : (rows : List Row) → Original ≡ holder rows → length rows ≡ 0
no_row [] e = refl
no_row (r ∷ rs) e = absurd (let z : ◌≡◌ {A = ℕ} 0 1 = cc in omega arith)

module _ (flow : Flow) (proper : Proper flow) (a b : List ℕ) (p : Pair) (n : ℕ) {file : Which} {count start end : ℕ} (x : Known flow a b p n file count start end) where
  abbrev rows : List Row
  rows = rows_in flow p (of file a b)

  abbrev it : Row
  it = row_at rows n

  is_it : OfPair flow p (of file a b) it
  is_it = each_row flow p (of file a b) n x.least (omega (arith, x.most, x.counted))

  its_bytes : between (of file a b) start end ≡ it.bytes
  its_bytes = (λ i. between (of file a b) (x.starts i) (x.ends i)) ∙ own_bytes flow p (of file a b) it is_it

  -- each row is handed back
  handed_each : (m : ℕ) → 1 ≤ m → m ≤ count → in_force (a_flow flow) a b p m ≡ part (file_number file) count (row_at rows m).start (end_of (row_at rows m))
  unfolding in_force in_force_for
  handed_each m l h =
      let rows_are : the_rows flow a b p ≡ rows = ap (λ (w : Which). rows_in flow p (of w a b)) (sym x.holds) in
      let within : m ≤ length (the_rows flow a b p) = omega (arith, h, x.counted, ap length rows_are) in
      ap paper (found_there flow a b p x.original x.resubmission m l within)
      ∙ (λ i. part (file_number (sym x.holds i)) (length (rows_are i)) (row_at (rows_are i) m).start (end_of (row_at (rows_are i) m)))
      ∙ ap (λ (c : ℕ). part (file_number file) c (row_at rows m).start (end_of (row_at rows m))) (sym x.counted)

  plainly : IsInForce (a_flow flow) a b p file count start end
  plainly =
      record {
        flow = flow;
        is_held = refl;
        original = (x.first, is_right flow proper a x.first x.original);
        resubmission = (x.second, is_right flow proper b x.second x.resubmission);
        only = λ e r there.
            let one = every_record flow p b r there in
            omega (arith, one.1, one.2, no_row (rows_in flow p b) (sym e ∙ x.holds));
        stands = subst (OfPair flow p (of file a b)) (λ i. row (sym x.starts i) (sym its_bytes i)) is_it;
        ends = omega (arith, x.ends, x.starts, ap length its_bytes);
        every = λ r there.
            let one = every_record flow p (of file a b) r there in (
              one.0,
              one.1,
              omega (arith, one.2, x.counted),
              handed_each one.0 one.1 (omega (arith, one.2, x.counted)) ∙ ap (λ (y : Row). part (file_number file) count y.start (end_of y)) one.3,
            );
        each = λ m l h. (row_at rows m, handed_each m l h);
      }

-- two records that are found: of one file, one count, and in that file's order
module _ (flow : Flow) (a b : List ℕ) (p : Pair) where
  two_found : (n m : ℕ) {v w : Which} {c d s t e g : ℕ} → Known flow a b p n v c s e → Known flow a b p m w d t g → (v ≡ w) × (c ≡ d) × (n < m → s < t)
  two_found n m {v} {w} x y =
      let one : v ≡ w = x.holds ∙ sym y.holds in
      let count = x.counted ∙ ap (λ (u : Which). length (rows_in flow p (of u a b))) one ∙ sym y.counted in
      let start = y.starts ∙ ap (λ (u : Which). (row_at (rows_in flow p (of u a b)) m).start) (sym one) in (
        one,
        count,
        λ h.
            let rise = rows-in-order flow p (of v a b) n m x.least h (omega (arith, y.most, count, x.counted)) in
            omega (arith, x.starts, start, rise),
      )

-- what is asked is a flow where a record is found
module _ (asks : Asked) (a b : List ℕ) (p : Pair) where
  -- each record that is handed back is a CM1 of the subject and the group in the file that holds it, both files are right, and the
  -- number in force is that of all such records there
  pub is_in_force : ProperAsked asks → (n : ℕ) {number count start end : ℕ} → in_force asks a b p n ≡ part number count start end
      → (file : Which) × (file_number file ≡ number) × IsInForce asks a b p file count start end
  unfolding in_force in_force_for
  is_in_force proper n {number} e =
      let x = paper_found number (in_force_for asks a b p n) e in
      (x.0, x.2, by asks proper x.1)
    where
      by : (y : Asked) → ProperAsked y → {file : Which} {count start end : ℕ} → in_force_for y a b p n ≡ Ok (found file count start end) → IsInForce y a b p file count start end
      by (a_flow flow) q h = plainly flow q a b p n (known flow a b p n h)
      by (no_flow r) q h = absurd (let z : ◌≡◌ {A = ℕ} 0 1 = cc in omega arith)

  -- what two answers have in common
  two : (y : Asked) (n m : ℕ) {v w : Which} {c d s t e g : ℕ} → in_force_for y a b p n ≡ Ok (found v c s e) → in_force_for y a b p m ≡ Ok (found w d t g)
      → (v ≡ w) × (c ≡ d) × (n < m → s < t)
  unfolding in_force_for
  two (a_flow flow) n m h k = two_found flow a b p n m (known flow a b p n h) (known flow a b p m k)
  two (no_flow r) n m h k = absurd (let z : ◌≡◌ {A = ℕ} 0 1 = cc in omega arith)

  module _ (n m : ℕ) {v w c d s t e g : ℕ} (x : in_force asks a b p n ≡ part v c s e) (y : in_force asks a b p m ≡ part w d t g) where
    both_found : (v ≡ w) × (c ≡ d) × (n < m → s < t)
    unfolding in_force
    both_found =
        let h = paper_found v (in_force_for asks a b p n) x in
        let k = paper_found w (in_force_for asks a b p m) y in
        let z = two asks n m h.1 k.1 in
        (sym h.2 ∙ ap file_number z.0 ∙ k.2, z.1, z.2)

    -- never mixed: all records in force are of one file, and their number is one
    pub from_one_file : (v ≡ w) × (c ≡ d)
    from_one_file = (both_found.0, both_found.1)

    -- they are numbered in that file's order
    pub in_order_lem : n < m → s < t
    in_order_lem = both_found.2

-- 23 where n is 0 or above the number in force, which it still gives, both files accepted
pub number_with_23 : (flow : Flow) (a b : List ℕ) (p : Pair) (i j : ℕ) → judged (a_flow flow) a ≡ accepted i → judged (a_flow flow) b ≡ accepted j
    → (n : ℕ) → (n ≡ 0) ⊎ (length (the_rows flow a b p) < n) → in_force (a_flow flow) a b p n ≡ refused 23 0 0 0 0 (length (the_rows flow a b p))
unfolding in_force in_force_for judged_for
number_with_23 flow a b p i j first second n out =
    ap paper (none_there flow a b p (accepted_answer (a_flow flow) a i first) (accepted_answer (a_flow flow) b j second) n out)
