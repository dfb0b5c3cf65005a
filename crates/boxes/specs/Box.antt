-- Boxes of ISO/IEC 14496-12 as lists of bytes.
use Rattle.std.specs.Prelude.{ℕ, ◌+◌, ◌*◌, ◌^◌, List, [], ◌∷◌, ◌++◌, length, Bool, cond}
use Rattle.laws.specs.Bytes.{be}

-- ==== The rules

-- a box: its size, its type, its body
unfoldable pub box : ℕ → List ℕ → List ℕ
box type body = be 4 (8 + length body) ++ (be 4 type ++ body)

-- a box whose body begins with a version and flags
unfoldable pub full_box : ℕ → ℕ → ℕ → List ℕ → List ℕ
full_box type version flags body = box type (be 4 (version * 2 ^ 24 + flags) ++ body)

-- bytes that stand where a field does, or where a test holds
abbrev pub when : Bool → List ℕ → List ℕ
when b bs = cond b bs []

abbrev pub flag_when : Bool → ℕ → ℕ
flag_when b v = cond b v 0

-- the types of the boxes, four letters each
abbrev pub styp : ℕ
styp = 0x7374_7970

abbrev pub prft : ℕ
prft = 0x7072_6674

abbrev pub emsg : ℕ
emsg = 0x656d_7367

abbrev pub moof : ℕ
moof = 0x6d6f_6f66

abbrev pub mfhd : ℕ
mfhd = 0x6d66_6864

abbrev pub traf : ℕ
traf = 0x7472_6166

abbrev pub tfhd : ℕ
tfhd = 0x7466_6864

abbrev pub tfdt : ℕ
tfdt = 0x7466_6474

abbrev pub trun : ℕ
trun = 0x7472_756e

abbrev pub senc : ℕ
senc = 0x7365_6e63

abbrev pub saiz : ℕ
saiz = 0x7361_697a

abbrev pub saio : ℕ
saio = 0x7361_696f

abbrev pub mdat : ℕ
mdat = 0x6d64_6174

-- ==== What only mirrors the code

-- numbers one after another, four bytes each
unfoldable pub words : List ℕ → List ℕ
words [] = []
words (w ∷ ws) = be 4 w ++ words ws
