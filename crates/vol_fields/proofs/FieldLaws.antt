-- Lemmas on the field that has a byte of an image.
use Rattle.std.proofs.Common.{◌≡◌, ℕ, ◌+◌, ◌-◌, ◌*◌, ◌<◌, ◌≤◌, ◌∙◌, List, [], ◌∷◌, length, ap, refl, arith}
use Rattle.vol_layout.specs.Edition.{constants}
use Rattle.vol_layout.specs.Geometry.{Fits}
use Rattle.vol_layout.specs.declared.edition.Edition.{Edition}
use Rattle.vol_layout.specs.declared.edition.Edition.TheVariants.{V6, V7}
use Rattle.vol_layout.specs.declared.geometry.Geometry.{Geometry}
use Rattle.vol_fields.specs.Runs.{total, spot_in, spot_at}
use Rattle.vol_fields.specs.Tables.{parts, part_runs, data_runs, inner_runs, role_at}
use Rattle.vol_fields.specs.Fields.{part_at, outer_in, inner_in, field_at}
use Rattle.vol_fields.specs.declared.names.Name.{Name}
use Rattle.vol_fields.specs.declared.names.Name.TheVariants as names
use Rattle.vol_fields.specs.declared.role.Role.{Role}
use Rattle.vol_fields.specs.declared.role.Role.TheVariants as roles
use Rattle.vol_fields.specs.declared.runs.Run.{Run}
use Rattle.vol_fields.specs.declared.runs.Spot.{Spot}
use Rattle.vol_fields.proofs.SpotLaws.{Within, by_lt, spot_has, spot_ends, spot_same}

-- each run has a property of its name and size
abbrev pub EachRun : (Name → ℕ → Type 0) → List Run → Type 0
EachRun P [] = Unit
EachRun P (run ∷ more) = P run.name run.bytes × EachRun P more

-- so has the field that has a byte of the runs
spot_kind : (P : Name → ℕ → Type 0) (runs : List Run) (base n : ℕ) → EachRun P runs → base ≤ n → n < base + total runs
    → P (spot_at runs base n).name (spot_at runs base n).bytes
unfolding spot_at
spot_kind P [] base n each after within = absurd (omega (arith, after, within))
spot_kind P (run ∷ more) base n each after within =
    by_lt (λ s. P s.name s.bytes) (spot_in run base n) (spot_at more (base + run.count * run.bytes) n) (n - base) (run.count * run.bytes)
    (λ low. each.0)
    (λ high. spot_kind P more (base + run.count * run.bytes) n each.1 (omega (arith, after, high)) (omega (arith, within)))

-- runs divide a part or field: the field that has byte n has it, begins at or after the start and ends at or before the end
divided : (runs : List Run) (start bytes n : ℕ) → total runs ≡ bytes → start ≤ n → n < start + bytes
    → let s = spot_at runs start n in (start ≤ s.start) × (s.start ≤ n) × (n < s.start + s.bytes) × (s.start + s.bytes ≤ start + bytes)
divided runs start bytes n fills after within =
    let has = spot_has runs start n after in
    let end = spot_ends runs start n after (omega (arith, fills, within)) in
    (has.1, has.0.0, has.0.1, omega (arith, end, fills))

-- the parts have all bytes of the image
pub parts_cover : (g : Geometry) (image : List ℕ) → Fits g image → total (parts g (length image)) ≡ length image
parts_cover g image fits =
    let i_list = fits.i_list in let blocks = fits.blocks in let zone = fits.zone in
    omega (arith, i_list, blocks, zone)

-- a part has its byte, and ends within the image
pub part_bounds : (g : Geometry) (image : List ℕ) (n : ℕ) → Fits g image → n < length image
    → let part = part_at g (length image) n in (0 ≤ part.start) × (part.start ≤ n) × (n < part.start + part.bytes) × (part.start + part.bytes ≤ 0 + length image)
part_bounds g image n fits within = divided (parts g (length image)) 0 (length image) n (parts_cover g image fits) (omega arith) (omega (arith, within))

-- the fields of a data block have all its bytes
data_fills : (edition : Edition) (role : Role) → total (data_runs edition role) ≡ 512
data_fills edition (roles.Slots i logical size) = omega arith
data_fills edition (roles.Bytes i logical size) = omega arith
data_fills V6 (roles.Entries i level logical) = omega arith
data_fills V7 (roles.Entries i level logical) = omega arith
data_fills V6 roles.Chain = omega arith
data_fills V7 roles.Chain = omega arith
data_fills edition role = omega arith

-- the fields of a part with this name have all its bytes, whatever its role
abbrev pub Fills : Edition → Name → ℕ → Type 0
Fills edition name bytes = (role : Role) → total (part_runs edition role name bytes) ≡ bytes

super_fills : (edition : Edition) → Fills edition names.Super 512
super_fills V6 = λ role. omega arith
super_fills V7 = λ role. omega arith

node_fills : (edition : Edition) → Fills edition names.Node (constants edition).inode_bytes
node_fills V6 = λ role. omega arith
node_fills V7 = λ role. omega arith

pub part_fills : (g : Geometry) (image : List ℕ) (n : ℕ) → Fits g image → n < length image
    → let part = part_at g (length image) n in Fills g.edition part.name part.bytes
part_fills g image n fits within =
    let whole : total (parts g (length image)) ≡ length image = parts_cover g image fits in
    spot_kind (Fills g.edition) (parts g (length image)) 0 n
    ((λ role. omega arith), (super_fills g.edition, (node_fills g.edition, ((λ role. data_fills g.edition role), ((λ role. omega arith), tt)))))
    (omega arith) (omega (arith, whole, within))

-- a field of a part has its byte, and is within the part
pub outer_bounds : (g : Geometry) (image : List ℕ) (role : Role) (n : ℕ) → Fits g image → n < length image
    → let part = part_at g (length image) n in let outer = outer_in g.edition role part n in
    (part.start ≤ outer.start) × (outer.start ≤ n) × (n < outer.start + outer.bytes) × (outer.start + outer.bytes ≤ part.start + part.bytes)
outer_bounds g image role n fits within =
    let part = part_at g (length image) n in
    let bounds = part_bounds g image n fits within in
    divided (part_runs g.edition role part.name part.bytes) part.start part.bytes n (part_fills g image n fits within role) bounds.1 bounds.2

-- a slot has 16 bytes
abbrev pub SlotSize : Name → ℕ → Type 0
SlotSize names.Slot bytes = bytes ≡ 16
SlotSize name bytes = Unit

-- the fields of a field have all its bytes
inner_total : (name : Name) (index bytes : ℕ) → SlotSize name bytes → total (inner_runs name index bytes) ≡ bytes
inner_total names.Slot index bytes size = omega (arith, size)
inner_total name index bytes size = omega arith

data_slots : (edition : Edition) (role : Role) → EachRun SlotSize (data_runs edition role)
data_slots edition (roles.Slots i logical size) = (refl, (tt, tt))
data_slots edition (roles.Bytes i logical size) = (tt, (tt, tt))
data_slots V6 (roles.Entries i level logical) = (tt, tt)
data_slots V7 (roles.Entries i level logical) = (tt, tt)
data_slots V6 roles.Chain = (tt, (tt, (tt, tt)))
data_slots V7 roles.Chain = (tt, (tt, (tt, tt)))
data_slots edition role = (tt, tt)

super_slots : (edition : Edition) (role : Role) (bytes : ℕ) → EachRun SlotSize (part_runs edition role names.Super bytes)
super_slots V6 role bytes = (tt, (tt, (tt, (tt, (tt, (tt, (tt, (tt, (tt, (tt, (tt, (tt, tt))))))))))))
super_slots V7 role bytes = (tt, (tt, (tt, (tt, (tt, (tt, (tt, (tt, (tt, (tt, (tt, (tt, tt))))))))))))

node_slots : (edition : Edition) (role : Role) (bytes : ℕ) → EachRun SlotSize (part_runs edition role names.Node bytes)
node_slots V6 role bytes = (tt, (tt, (tt, (tt, (tt, (tt, (tt, (tt, tt))))))))
node_slots V7 role bytes = (tt, (tt, (tt, (tt, (tt, (tt, (tt, (tt, (tt, (tt, tt))))))))))

-- no field of a part with this name is a slot of another size
abbrev pub HasSlots : Edition → Name → ℕ → Type 0
HasSlots edition name bytes = (role : Role) → EachRun SlotSize (part_runs edition role name bytes)

pub inner_fills : (g : Geometry) (image : List ℕ) (role : Role) (n : ℕ) → Fits g image → n < length image
    → let outer = outer_in g.edition role (part_at g (length image) n) n in total (inner_runs outer.name outer.index outer.bytes) ≡ outer.bytes
inner_fills g image role n fits within =
    let part = part_at g (length image) n in
    let outer = outer_in g.edition role part n in
    let whole : total (parts g (length image)) ≡ length image = parts_cover g image fits in
    let fills : total (part_runs g.edition role part.name part.bytes) ≡ part.bytes = part_fills g image n fits within role in
    let bounds = part_bounds g image n fits within in
    let each : EachRun SlotSize (part_runs g.edition role part.name part.bytes) = spot_kind (HasSlots g.edition) (parts g (length image)) 0 n
    ((λ r. (tt, tt)), ((λ r. super_slots g.edition r 512), ((λ r. node_slots g.edition r (constants g.edition).inode_bytes), ((λ r. data_slots g.edition r), ((λ r. (tt, tt)), tt)))))
    (omega arith) (omega (arith, whole, within)) role in
    inner_total outer.name outer.index outer.bytes
    (spot_kind SlotSize (part_runs g.edition role part.name part.bytes) part.start n each bounds.1 (omega (arith, fills, bounds.2)))

-- a field has its byte, and is within its part
pub field_bounds : (g : Geometry) (image : List ℕ) (table : List Role) (n : ℕ) → Fits g image → n < length image
    → let field = field_at g table (length image) n in
    (field.part.start ≤ field.spot.start) × (field.spot.start ≤ n) × (n < field.spot.start + field.spot.bytes)
    × (field.spot.start + field.spot.bytes ≤ field.part.start + field.part.bytes)
unfolding field_at
field_bounds g image table n fits within =
    let part = part_at g (length image) n in
    let role = role_at table part.index in
    let outer = outer_in g.edition role part n in
    let before = outer_bounds g image role n fits within in
    let here = divided (inner_runs outer.name outer.index outer.bytes) outer.start outer.bytes n (inner_fills g image role n fits within) before.1 before.2 in
    (omega (arith, before.0, here.0), here.1, here.2, omega (arith, before.3, here.3))

-- each byte of a field has the same field
pub field_same : (g : Geometry) (image : List ℕ) (table : List Role) (n q : ℕ) → Fits g image → n < length image
    → Within (field_at g table (length image) n).spot q → field_at g table (length image) q ≡ field_at g table (length image) n
unfolding field_at
field_same g image table n q fits within has =
    let part = part_at g (length image) n in
    let role = role_at table part.index in
    let outer = outer_in g.edition role part n in
    let bounds = part_bounds g image n fits within in
    let before = outer_bounds g image role n fits within in
    let here = divided (inner_runs outer.name outer.index outer.bytes) outer.start outer.bytes n (inner_fills g image role n fits within) before.1 before.2 in
    let same : part_at g (length image) q ≡ part =
    spot_same (parts g (length image)) 0 n q (omega arith) (omega (arith, before.0, here.0, has.0), omega (arith, before.3, here.3, has.1)) in
    let same_outer : outer_in g.edition role part q ≡ outer =
    spot_same (part_runs g.edition role part.name part.bytes) part.start n q bounds.1 (omega (arith, here.0, has.0), omega (arith, here.3, has.1)) in
    ap (λ (p : Spot). record { part = p; spot = inner_in (outer_in g.edition (role_at table p.index) p q) q }) same
    ∙ (ap (λ (s : Spot). record { part = part; spot = inner_in s q }) same_outer
    ∙ ap (λ (s : Spot). record { part = part; spot = s }) (spot_same (inner_runs outer.name outer.index outer.bytes) outer.start n q before.1 has))

-- a field ends within the image
pub field_ends : (g : Geometry) (image : List ℕ) (table : List Role) (n : ℕ) → Fits g image → n < length image
    → let field = field_at g table (length image) n in field.spot.start + field.spot.bytes ≤ length image
unfolding field_at
field_ends g image table n fits within =
    let edges = field_bounds g image table n fits within in
    let bounds = part_bounds g image n fits within in
    omega (arith, edges.3, bounds.3)
