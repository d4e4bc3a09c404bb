-- The six flows (document 01, "The six flows"), line by line, and what edition 711 has anew (document 02, C-16). Assumes nothing.
use Rattle.std.specs.Prelude.{ℕ, ◌-◌, Bool, true, false, not, List, [], ◌∷◌, ◌++◌, map, eqb, get_or}
use Rattle.text.specs.Places.{place_of}
use Rattle.layout.specs.Layout.{Rule}
use Rattle.grammar.specs.Sets.{Sets, Nothing, Kind, Then, AnyNumber, OneOrMore, Either}
use Rattle.flow.specs.Letters.{ZHD, ZPT, ZPD, HDR, GSP, GS2, GS7, SUP, BMU, SB1, CM1, SB2, CM2, SUB, TA2, SP7}
use Rattle.flow.specs.Letters.{P0012001, P0181002, P0133001, P0134001, P0138001, P0164001, B, G, H, M, X, Z, nought}
use Rattle.flow.specs.Publication.{Flow, PublishedKind, kind, kind_within, keyed, keyed_within, repeating_within}
use Rattle.flow.specs.Publication.{text, int, dec, date, datetime, bol, period, null, optional, is}

-- every flow: file type text(8) =flow, from role text(1), from id text(4), to role text(1), to id text(4), creation datetime
abbrev pub header : List ℕ → Rule → Rule → PublishedKind
header flow from to = kind ZHD (is (text 8) flow ∷ from ∷ text 4 ∷ to ∷ text 4 ∷ datetime ∷ [])

-- record count int(10), checksum int(10)
abbrev pub footer : PublishedKind
footer = kind ZPT (int 10 ∷ int 10 ∷ [])

-- some sets, one after the other
abbrev pub in_order : List Sets → Sets
in_order [] = Nothing
in_order (s ∷ []) = s
in_order (s ∷ t ∷ ss) = Then s (in_order (t ∷ ss))

-- P0012001: ZHD, ZPD, HDR, then any number of GSP or any number of GS2 but never both, ZPT
abbrev pub p0012 : Flow
p0012 =
    record {
      name = P0012001;
      grammar =
          in_order (Kind ZHD ∷ Kind ZPD ∷ Kind HDR ∷ Either (AnyNumber (Kind GSP)) (AnyNumber (Kind GS2)) ∷ Kind ZPT ∷ []);
      kinds =
          header P0012001 (text 1) (text 1)
          ∷ kind ZPD (date ∷ optional (text 2) ∷ optional (text 2) ∷ int 7 ∷ text 2 ∷ [])
          ∷ kind HDR (int 10 ∷ text 2 ∷ int 13 ∷ [])
          ∷ keyed GSP (period ∷ int 13 ∷ dec 14 4 ∷ []) 2
          ∷ keyed GS2 (period ∷ is (int 1) nought ∷ dec 14 4 ∷ []) 2
          ∷ footer
          ∷ [];
      feed = true;
    }

-- P0181002: ZHD, one or more GS7 sets, ZPT. A GS7 set is GS7 and any number of SUP sets; a SUP set is SUP and one or more BMU
abbrev pub p0181 : Flow
p0181 =
    record {
      name = P0181002;
      grammar =
          in_order
          (Kind ZHD
          ∷ OneOrMore (Then (Kind GS7) (AnyNumber (Then (Kind SUP) (OneOrMore (Kind BMU)))))
          ∷ Kind ZPT
          ∷ []);
      kinds =
          header P0181002 (text 1) (text 1)
          ∷ kind GS7 (text 2 ∷ [])
          ∷ keyed_within SUP (text 4 ∷ []) 2 GS7
          ∷ keyed_within BMU (text 11 ∷ date ∷ optional date ∷ bol ∷ []) 2 SUP
          ∷ footer
          ∷ [];
      feed = true;
    }

-- SB1: market sector =H, role =M, id text(8), date, periodicity =M
abbrev pub sb1 : PublishedKind
sb1 = kind SB1 (is (text 1) H ∷ is (text 1) M ∷ text 8 ∷ date ∷ is (text 1) M ∷ [])

-- in edition 711 SB1 is role, id, date, periodicity
abbrev pub sb1_in_711 : PublishedKind
sb1_in_711 = kind SB1 (is (text 1) M ∷ text 8 ∷ date ∷ is (text 1) M ∷ [])

-- P0133001: ZHD, any number of SB1 sets (SB1 and any number of CM1), ZPT; all but SB1 is the same in each edition
abbrev pub p0133_with : PublishedKind → Flow
p0133_with subject =
    record {
      name = P0133001;
      grammar = in_order (Kind ZHD ∷ AnyNumber (Then (Kind SB1) (AnyNumber (Kind CM1))) ∷ Kind ZPT ∷ []);
      kinds =
          header P0133001 (is (text 1) Z) (is (text 1) Z)
          ∷ subject
          ∷ kind_within CM1 (optional (text 2) ∷ int 7 ∷ dec 4 1 ∷ int 7 ∷ []) SB1
          ∷ footer
          ∷ [];
      feed = false;
    }

abbrev pub p0133 : Flow
p0133 = p0133_with sb1

abbrev pub p0133_in_711 : Flow
p0133_in_711 = p0133_with sb1_in_711

-- P0134001: the same with SB2 and CM2
abbrev pub p0134 : Flow
p0134 =
    record {
      name = P0134001;
      grammar = in_order (Kind ZHD ∷ AnyNumber (Then (Kind SB2) (AnyNumber (Kind CM2))) ∷ Kind ZPT ∷ []);
      kinds =
          header P0134001 (is (text 1) Z) (is (text 1) Z)
          ∷ kind SB2 (is (text 1) M ∷ text 8 ∷ date ∷ is (text 1) M ∷ [])
          ∷ kind_within CM2 (optional (text 2) ∷ int 7 ∷ int 7 ∷ dec 4 1 ∷ dec 4 1 ∷ []) SB2
          ∷ footer
          ∷ [];
      feed = false;
    }

-- P0138001: ZHD, SUB, TA2, ZPT
abbrev pub p0138 : Flow
p0138 =
    record {
      name = P0138001;
      grammar = in_order (Kind ZHD ∷ Kind SUB ∷ Kind TA2 ∷ Kind ZPT ∷ []);
      kinds =
          header P0138001 (is (text 1) G) (is (text 1) Z)
          ∷ kind SUB (is (text 1) B ∷ null ∷ null ∷ date ∷ is (text 1) M ∷ [])
          ∷ kind TA2 (dec 5 4 ∷ [])
          ∷ footer
          ∷ [];
      feed = false;
    }

-- P0164001: ZHD, any number of SUB sets (SUB and any number of SP7), ZPT
abbrev pub p0164 : Flow
p0164 =
    record {
      name = P0164001;
      grammar = in_order (Kind ZHD ∷ AnyNumber (Then (Kind SUB) (AnyNumber (Kind SP7))) ∷ Kind ZPT ∷ []);
      kinds =
          header P0164001 (is (text 1) G) (is (text 1) Z)
          ∷ kind SUB (is (text 1) B ∷ is (text 1) X ∷ text 4 ∷ date ∷ is (text 1) M ∷ [])
          ∷ repeating_within SP7 (text 2 ∷ text 4 ∷ text 1 ∷ date ∷ text 2 ∷ int 10 ∷ []) 5 SUB
          ∷ footer
          ∷ [];
      feed = false;
    }

-- the flows that we hold, each as it is in edition 533
abbrev pub flows : List Flow
flows = p0012 ∷ p0181 ∷ p0133 ∷ p0134 ∷ p0138 ∷ p0164 ∷ []

-- with those that have a layout of their own in edition 711
abbrev pub flows_and_editions : List Flow
flows_and_editions = flows ++ p0133_in_711 ∷ []

-- the number of the flow of this name, from 1; 0 where we hold none
unfoldable pub flow_number : List ℕ → ℕ
flow_number name = place_of name 1 (map (λ (f : Flow). f.name) flows)

-- we hold a flow of this name
abbrev pub held : List ℕ → Bool
held name = not (eqb (flow_number name) 0)

-- flow number n; number 7 is P0133001 in edition 711
abbrev pub flow_at : ℕ → Flow
flow_at n = get_or flows_and_editions (n - 1) p0012

-- the flow of this name in edition 533, where we hold one
abbrev pub flow_named : List ℕ → Flow
flow_named name = flow_at (flow_number name)
