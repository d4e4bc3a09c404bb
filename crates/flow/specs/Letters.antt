-- The names of the kinds, flows and editions, and the letters that are fixed values, as bytes. Assumes nothing.
use Rattle.std.specs.Prelude.{ℕ, List}
use Rattle.text.specs.Characters.{bytes}

abbrev pub ZHD : List ℕ
ZHD = bytes "ZHD"

abbrev pub ZPT : List ℕ
ZPT = bytes "ZPT"

abbrev pub ZPD : List ℕ
ZPD = bytes "ZPD"

abbrev pub HDR : List ℕ
HDR = bytes "HDR"

abbrev pub GSP : List ℕ
GSP = bytes "GSP"

abbrev pub GS2 : List ℕ
GS2 = bytes "GS2"

abbrev pub GS7 : List ℕ
GS7 = bytes "GS7"

abbrev pub SUP : List ℕ
SUP = bytes "SUP"

abbrev pub BMU : List ℕ
BMU = bytes "BMU"

abbrev pub SB1 : List ℕ
SB1 = bytes "SB1"

abbrev pub CM1 : List ℕ
CM1 = bytes "CM1"

abbrev pub SB2 : List ℕ
SB2 = bytes "SB2"

abbrev pub CM2 : List ℕ
CM2 = bytes "CM2"

abbrev pub SUB : List ℕ
SUB = bytes "SUB"

abbrev pub TA2 : List ℕ
TA2 = bytes "TA2"

abbrev pub SP7 : List ℕ
SP7 = bytes "SP7"

abbrev pub P0012001 : List ℕ
P0012001 = bytes "P0012001"

abbrev pub P0181002 : List ℕ
P0181002 = bytes "P0181002"

abbrev pub P0133001 : List ℕ
P0133001 = bytes "P0133001"

abbrev pub P0134001 : List ℕ
P0134001 = bytes "P0134001"

abbrev pub P0138001 : List ℕ
P0138001 = bytes "P0138001"

abbrev pub P0164001 : List ℕ
P0164001 = bytes "P0164001"

-- the editions
abbrev pub E533 : List ℕ
E533 = bytes "533"

abbrev pub E711 : List ℕ
E711 = bytes "711"

abbrev pub B : List ℕ
B = bytes "B"

abbrev pub G : List ℕ
G = bytes "G"

abbrev pub H : List ℕ
H = bytes "H"

abbrev pub M : List ℕ
M = bytes "M"

abbrev pub X : List ℕ
X = bytes "X"

abbrev pub Z : List ℕ
Z = bytes "Z"

-- the digit 0
abbrev pub nought : List ℕ
nought = bytes "0"
