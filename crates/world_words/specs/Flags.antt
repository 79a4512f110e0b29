-- The flags of a route: by names, and as letters in the way of netstat(1).
use Rattle.std.specs.Prelude.{ℕ, true, if◌then◌else◌, List, [], ◌∷◌, ◌++◌, codes}
use Rattle.message_text.specs.Names.{Named, first_after, flag_names, has_bit, named, names}
use Rattle.route_msgs.specs.declared.flags.TheConstants.{RTF_BLACKHOLE, RTF_CLONING, RTF_DONE, RTF_DYNAMIC, RTF_GATEWAY, RTF_HOST, RTF_LLINFO, RTF_MASK, RTF_MODIFIED, RTF_PROTO1, RTF_PROTO2, RTF_REJECT, RTF_STATIC, RTF_UP, RTF_XRESOLVE}

-- the names of those that are set, with commas between them, or `none`
abbrev pub flags_word : ℕ → List ℕ
flags_word flags = if first_after true flag_names flags then codes "none" else names flag_names flags

-- the letter of a flag that is set
unfoldable pub letter_of : ℕ → Named → List ℕ
letter_of flags flag = if has_bit flags flag.number then flag.name else []

unfoldable pub letters_among : List Named → ℕ → List ℕ
letters_among [] flags = []
letters_among (flag ∷ more) flags = letter_of flags flag ++ letters_among more flags

unfoldable pub low_letters : List Named
low_letters =
    named RTF_UP (codes "U")
    ∷ named RTF_GATEWAY (codes "G")
    ∷ named RTF_HOST (codes "H")
    ∷ named RTF_REJECT (codes "R")
    ∷ named RTF_DYNAMIC (codes "D")
    ∷ named RTF_MODIFIED (codes "M")
    ∷ named RTF_DONE (codes "d")
    ∷ named RTF_MASK (codes "m")
    ∷ []

unfoldable pub high_letters : List Named
high_letters =
    named RTF_CLONING (codes "C")
    ∷ named RTF_XRESOLVE (codes "X")
    ∷ named RTF_LLINFO (codes "L")
    ∷ named RTF_STATIC (codes "S")
    ∷ named RTF_BLACKHOLE (codes "B")
    ∷ named RTF_PROTO2 (codes "2")
    ∷ named RTF_PROTO1 (codes "1")
    ∷ []

-- the letters of those that are set
abbrev pub flag_letters : ℕ → List ℕ
flag_letters flags = letters_among low_letters flags ++ letters_among high_letters flags
