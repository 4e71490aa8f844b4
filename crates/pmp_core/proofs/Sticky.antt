-- What writes alone can't take back.
use borrow.Author.Tests.{tests}
use Rattle.std.proofs.Common.{rules, ◌≡◌, ℕ, suc, Bool, true, false, cond, List, [], ◌∷◌, length, fold, refl, ap, ◌∙◌}
use Rattle.std.proofs.Common.{inl, inr}
use Rattle.std.specs.List.{list_all}
use Rattle.std.proofs.lemmas.Bool.{and_parts, false≢true, or_cases, or_left, or_right}
use Rattle.pmp_core.specs.declared.access.Kind.{Kind}
use Rattle.pmp_core.specs.declared.access.Mode.{Mode}
use Rattle.pmp_core.specs.declared.csr.Csr.TheVariants.{Cfg, Addr, Mseccfg, Mseccfgh}
use Rattle.pmp_core.specs.Entry.{Entry}
use Rattle.pmp_core.specs.declared.event.Event.{Event}
use Rattle.pmp_core.specs.declared.event.Event.TheVariants.{Write, Reset}
use Rattle.pmp_core.specs.declared.mseccfg.MseccfgFields.{MseccfgFields}
use Rattle.pmp_core.specs.Mseccfg.{mseccfg_written}
use Rattle.pmp_core.specs.RegisterFile.{RegisterFile, entry_at, is_frozen}
use Rattle.pmp_core.specs.RegisterValue.{register_value}
use Rattle.pmp_core.specs.RegisterWrite.{is_any_locked, is_tor, step, written}
use Rattle.pmp_core.specs.Rights.{allows, default_rights_by}
use Rattle.pmp_core.specs.Histories.{is_write}
use Rattle.pmp_core.specs.StickyLaw.{StickyLaw, FrozenAddressLaw}
use Rattle.pmp_core.proofs.Legal.{length-written}
use Rattle.pmp_core.proofs.Locks.{still_frozen, held_on}

-- a bit of mseccfg that every write of it keeps set stays set through every list of writes
bit_stays : (bit : MseccfgFields → Bool)
    → ((before : MseccfgFields) (is_any : Bool) (value : ℕ) → bit before ≡ true
    → bit (mseccfg_written before is_any value) ≡ true)
    → (file : RegisterFile) (events : List Event) → list_all is_write events ≡ true
    → bit file.mseccfg ≡ true → bit (fold step file events).mseccfg ≡ true
bit_stays bit kept file [] writes h = h
bit_stays bit kept file (Reset ∷ events) writes h = absurd (false≢true writes)
bit_stays bit kept file (Write (Cfg q) value ∷ events) writes h =
    bit_stays bit kept (written file (Cfg q) value) events writes h
bit_stays bit kept file (Write (Addr i) value ∷ events) writes h =
    bit_stays bit kept (written file (Addr i) value) events writes h
bit_stays bit kept file (Write Mseccfg value ∷ events) writes h =
    let new = mseccfg_written file.mseccfg (is_any_locked file.entries) value in
    bit_stays bit kept (written file Mseccfg value) events writes
    (elim file.profile.has_smepmp as (λ has. bit (cond has new file.mseccfg) ≡ true) [
      | true ↦ kept file.mseccfg (is_any_locked file.entries) value h
      | false ↦ h
    ])
bit_stays bit kept file (Write Mseccfgh value ∷ events) writes h = bit_stays bit kept file events writes h

pub mml_stays : (file : RegisterFile) (events : List Event) → list_all is_write events ≡ true
    → file.mseccfg.mml ≡ true → (fold step file events).mseccfg.mml ≡ true
mml_stays = bit_stays (λ m. m.mml) (λ before is_any value. or_left before.mml _)

mmwp_stays : (file : RegisterFile) (events : List Event) → list_all is_write events ≡ true
    → file.mseccfg.mmwp ≡ true → (fold step file events).mseccfg.mmwp ≡ true
mmwp_stays = bit_stays (λ m. m.mmwp) (λ before is_any value. or_left before.mmwp _)

none_open : (mml : Bool) (mode : Mode) (kind : Kind) → allows (default_rights_by true mml true mode) kind ≡ false
none_open mml mode kind = search rules

-- writes leave as many entries
pub length-writes : (file : RegisterFile) (events : List Event) → list_all is_write events ≡ true
    → length (fold step file events).entries ≡ length file.entries
length-writes file [] writes = refl
length-writes file (Reset ∷ events) writes = absurd (false≢true writes)
length-writes file (Write csr value ∷ events) writes =
    length-writes (written file csr value) events writes ∙ length-written file csr value

pub sticky_law : StickyLaw
sticky_law file events writes = search (rules, tests, mml_stays, mmwp_stays, length-writes, none_open)

-- ---- addresses

-- what an address register reads by the entry that has it
read_alike : (before after : RegisterFile) (i : ℕ) → after.profile ≡ before.profile
    → entry_at after.entries i ≡ entry_at before.entries i
    → register_value after (Addr i) ≡ register_value before (Addr i)
read_alike before after i hart entry = rw (hart, entry) refl

-- with the finest grain it reads what is kept
read_kept : (before after : RegisterFile) (i : ℕ) → after.profile ≡ before.profile → before.profile.grain ≡ 0
    → (entry_at after.entries i).address ≡ (entry_at before.entries i).address
    → register_value after (Addr i) ≡ register_value before (Addr i)
read_kept before after i hart finest kept = search rules

pub frozen_address_law : FrozenAddressLaw
frozen_address_law file i events frozen writes =
    let after = fold step file events in
    elim (or_cases (is_frozen file i) _ frozen) [
      | inl own ↦
          let held = held_on file i events own writes in
          record {
            kept = ap (λ (e : Entry). e.address) held.entry;
            frozen = or_left (is_frozen after i) _ (still_frozen file after i own held);
            read = λ either. read_alike file after i held.hart held.entry;
          }
      | inr next ↦
          let above = and_parts (is_frozen file (suc i)) _ next in
          let held = held_on file (suc i) events above.0 writes in
          let still : is_frozen after (suc i) ≡ true = still_frozen file after (suc i) above.0 held in
          let tor : is_tor (entry_at after.entries (suc i)).configuration.matching ≡ true = rw held.entry above.1 in
          record {
            kept = held.low above.1;
            frozen = or_right (is_frozen after i) _ (rw (still, tor) refl);
            read = λ either. elim either [
              | inl own ↦ read_alike file after i held.hart (held_on file i events own writes).entry
              | inr finest ↦ read_kept file after i held.hart finest (held.low above.1)
            ];
          }
    ]
