-- The text of a picture of a register file's runs, an SVG document.
use Rattle.std.specs.Prelude.{◌≡◌, ℕ, ◌+◌, ◌-◌, ◌*◌, ◌/◌, ◌%◌, ◌^◌, ◌==◌, Bool, List, [], ◌∷◌, ◌++◌, length, Option}
use Rattle.std.specs.Prelude.{true, false, not, max, ◌&&◌, Some, None, if◌then◌else◌, codes, decimal, is_some}
use Rattle.std.specs.List.{enumerate_from, flat_map}
use Rattle.pmp_core.specs.declared.access.Mode.TheVariants.{M, U}
use Rattle.pmp_core.specs.declared.access.TheConstants.{ADDRESS_LIMIT}
use Rattle.pmp_core.specs.declared.mseccfg.MseccfgFields.{MseccfgFields}
use Rattle.pmp_core.specs.Lock.{lock_of}
use Rattle.pmp_core.specs.RegisterFile.{RegisterFile, is_held}
use Rattle.pmp_core.specs.declared.lock.Lock.{Lock}
use Rattle.pmp_core.specs.declared.lock.Lock.TheVariants.{Bypassed, Frozen, Open}
use Rattle.pmp_map.specs.declared.run.Run.{Run}
use Rattle.pmp_map.specs.Answers.{owned_rights}
use Rattle.pmp_map.specs.Runs.{AreRuns}
use Rattle.pmp_text.specs.declared.lines.hexadecimal.TheConstants.{ADDRESS_DIGITS}
use Rattle.pmp_text.specs.declared.lines.picture.TheConstants.{BAND, FOOT}
use Rattle.pmp_text.specs.declared.lines.picture.band.TheConstants.{BYPASSED, FROZEN, HELD}
use Rattle.pmp_text.specs.declared.lines.picture.head.TheConstants.{BANDS, LEGEND, STYLE}
use Rattle.pmp_text.specs.Hexadecimal.{hex_text}
use Rattle.pmp_text.specs.MetNames.{Named, is_whole, meets, offset_text}
use Rattle.pmp_text.specs.RightsTexts.{rights_text}

-- ---- a run

-- how many of the largest unit that divides the bytes evenly
abbrev pub size_text : (bytes : ℕ) → List ℕ
size_text bytes =
    if bytes % 2 ^ 50 == 0 then decimal (bytes / 2 ^ 50) ++ codes " PiB"
    else (if bytes % 2 ^ 40 == 0 then decimal (bytes / 2 ^ 40) ++ codes " TiB"
    else (if bytes % 2 ^ 30 == 0 then decimal (bytes / 2 ^ 30) ++ codes " GiB"
    else (if bytes % 2 ^ 20 == 0 then decimal (bytes / 2 ^ 20) ++ codes " MiB"
    else (if bytes % 2 ^ 10 == 0 then decimal (bytes / 2 ^ 10) ++ codes " KiB"
    else decimal bytes ++ codes " bytes"))))

-- how many bytes the run has, or none if it goes on to the end of all bytes
abbrev pub size_of : (first last : ℕ) → Option ℕ
size_of first last = if last + 1 == ADDRESS_LIMIT then None else Some (last + 1 - first)

abbrev pub size_name : Option ℕ → List ℕ
size_name None = codes "to the end"
size_name (Some bytes) = size_text bytes

abbrev pub owner_name : Option ℕ → List ℕ
owner_name None = codes "no entry"
owner_name (Some entry) = codes "entry " ++ decimal entry

-- the strip at this place, in the colour of these rights
abbrev pub strip : (place : ℕ) → (rights : List ℕ) → List ℕ
strip place rights =
    codes "<g class='su" ++ (rights ++ (codes "' transform='translate(0," ++ (decimal (BAND * place)
    ++ (codes ")'><rect y='-17' width='928' height='" ++ (decimal BAND ++ codes "'/>")))))

-- the first and the last byte
abbrev pub ends : (first last : ℕ) → List ℕ
ends first last =
    codes "<text x='8'>0x" ++ (hex_text ADDRESS_DIGITS first ++ (codes "</text><text x='148'>0x"
    ++ (hex_text ADDRESS_DIGITS last ++ codes "</text>")))

-- the size and the owner
abbrev pub extent : (size owner : Option ℕ) → List ℕ
extent size owner =
    codes "<text x='292'>" ++ (size_name size ++ (codes "</text><text x='496'>" ++ (owner_name owner
    ++ codes "</text>")))

-- the rights of M-mode, and of S-mode and U-mode
abbrev pub permissions : (machine others : List ℕ) → List ℕ
permissions machine others =
    codes "<text x='592'>" ++ (machine ++ (codes "</text><text x='700'>" ++ (others ++ codes "</text>")))

-- a full lock if the owner is held, an empty one if it is only frozen, an open one if RLB bypasses its lock
abbrev pub sign_of : Lock → (is_held : Bool) → List ℕ
sign_of Frozen true = HELD.now
sign_of Frozen false = FROZEN.now
sign_of Bypassed is_held = BYPASSED.now
sign_of Open is_held = []

abbrev pub lock_sign : RegisterFile → Option ℕ → List ℕ
lock_sign file None = []
lock_sign file (Some entry) = sign_of (lock_of file entry) (is_held file entry)

-- a band with these rights and this sign, but for its names and its end
abbrev pub drawn_strip : (place : ℕ) → Run → (machine others sign : List ℕ) → List ℕ
drawn_strip place run machine others sign =
    strip place others ++ (ends run.first run.last ++ (extent (size_of run.first run.last) run.owner
    ++ (permissions machine others ++ sign)))

unfoldable pub strip_text : RegisterFile → (place : ℕ) → Run → List ℕ
strip_text file place run =
    drawn_strip place run (rights_text (owned_rights file run.owner M)) (rights_text (owned_rights file run.owner U))
    (lock_sign file run.owner)

-- a byte of a text as XML writes it
abbrev pub escaped_byte : (byte : ℕ) → List ℕ
escaped_byte byte =
    if byte == 60 then codes "&lt;"
    else (if byte == 62 then codes "&gt;"
    else (if byte == 38 then codes "&amp;" else byte ∷ []))

abbrev pub escaped : (text : List ℕ) → List ℕ
escaped text = flat_map escaped_byte text

-- a name, and if only a part of it is in the band, where that begins
abbrev pub band_name : Named → (first last : ℕ) → List ℕ
band_name one first last = escaped one.name
    ++ (if is_whole one first last then [] else offset_text (max first one.first - one.first))

-- the beginning of the cell, or a blank
abbrev pub beginning : (is_first : Bool) → List ℕ
beginning is_first = if is_first then codes "<text x='936'>" else codes " "

-- a name of the band, after that
abbrev pub met_in_band : (is_first : Bool) → Named → (first last : ℕ) → List ℕ
met_in_band is_first one first last =
    if meets one first last then beginning is_first ++ band_name one first last else []

-- the names of a band in a cell, if it has some
abbrev pub names_from : (is_first : Bool) → List Named → (first last : ℕ) → List ℕ
names_from is_first [] first last = if is_first then [] else codes "</text>"
names_from is_first (one ∷ more) first last =
    met_in_band is_first one first last
    ++ names_from (is_first && not (meets one first last)) more first last

abbrev pub names_text : Option (List Named) → (first last : ℕ) → List ℕ
names_text None first last = []
names_text (Some names) first last = names_from true names first last

-- the band of the run at this place
unfoldable pub band : RegisterFile → Option (List Named) → (place : ℕ) → Run → List ℕ
band file names place run =
    strip_text file place run ++ (names_text names run.first run.last ++ (codes "</g>" ++ 10 ∷ []))

-- ---- the document

abbrev pub width_text : (has_names : Bool) → List ℕ
width_text true = codes "1280"
width_text false = codes "960"

-- the first tag, with room for this many bands
abbrev pub opening : (width : List ℕ) → (bands : ℕ) → List ℕ
opening width bands =
    let height = decimal (BAND * bands + 176) in
    codes "<svg xmlns='http://www.w3.org/2000/svg' width='" ++ (width ++ (codes "' height='" ++ (height
    ++ (codes "' viewBox='0 0 " ++ (width ++ (codes " " ++ (height ++ (codes "'>" ++ 10 ∷ []))))))))

abbrev pub background : (width : List ℕ) → List ℕ
background width = codes "<rect width='" ++ (width ++ (codes "' height='100%'/>" ++ 10 ∷ []))

-- the name of the column of names
abbrev pub names_head : (has_names : Bool) → List ℕ
names_head true = codes "<text x='936'>Names</text>"
names_head false = []

abbrev pub title : (publications : ℕ) → List ℕ
title publications = codes "PMP memory map, publications done: " ++ decimal publications

-- the title twice: for screen readers, and drawn
abbrev pub spoken_title : (publications : ℕ) → List ℕ
spoken_title publications = codes "<title>" ++ (title publications ++ (codes "</title>" ++ 10 ∷ []))

abbrev pub large_title : (publications : ℕ) → List ℕ
large_title publications =
    codes "<text class='large' x='16' y='36'>" ++ (title publications ++ (codes "</text>" ++ 10 ∷ []))

abbrev pub switch_text : Bool → List ℕ
switch_text is_on = if is_on then codes "on" else codes "off"

-- the line of the settings, with `on` or `off` for each
abbrev pub settings_line : (lockdown policy bypass : List ℕ) → List ℕ
settings_line lockdown policy bypass =
    codes "<text x='16' y='62'>Lockdown (MML) " ++ (lockdown ++ (codes ", allow-list policy (MMWP) " ++ (policy
    ++ (codes ", rule-locking bypass (RLB) " ++ (bypass ++ (codes "</text>" ++ 10 ∷ []))))))

-- the bits MML, MMWP and RLB of mseccfg (Smepmp)
abbrev pub settings : MseccfgFields → List ℕ
settings mseccfg = settings_line (switch_text mseccfg.mml) (switch_text mseccfg.mmwp) (switch_text mseccfg.rlb)

-- the title of a picture of so many bands, its colours and its background
unfoldable pub title_part : (publications : ℕ) → (has_names : Bool) → (bands : ℕ) → List ℕ
title_part publications has_names bands = let width = width_text has_names in
    opening width bands ++ (spoken_title publications ++ (STYLE.now ++ background width))

-- what stands between the background and the bands
unfoldable pub legend_part : RegisterFile → (publications : ℕ) → (has_names : Bool) → List ℕ
legend_part file publications has_names =
    large_title publications ++ (settings file.mseccfg ++ (LEGEND.now ++ (names_head has_names ++ BANDS.now)))

-- a band for each run, from the top down
unfoldable pub bands : RegisterFile → Option (List Named) → List Run → List ℕ
bands file names runs = flat_map (λ (place, run). band file names place run) (enumerate_from 0 runs)

-- the picture of the file's runs, of which there is only one list
pub record IsPicture (file : RegisterFile) (publications : ℕ) (names : Option (List Named)) (text : List ℕ) : Type 0
  where
    pub runs : List Run
    pub runs_are : AreRuns file runs
    pub drawn : text ≡ title_part publications (is_some names) (length runs)
        ++ (legend_part file publications (is_some names) ++ (bands file names runs ++ FOOT.now))
