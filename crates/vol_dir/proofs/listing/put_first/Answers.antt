use Rattle.std.proofs.Common.{◌≡◌, ◌∙◌, sym, subst}
use Rattle.vol_dir.specs.NameKeys.{key_of, IsSlotName}
use Rattle.vol_dir.specs.NameList.{by_bytes, put_first}
use Rattle.vol_dir.proofs.ListedNames.{listed_put, listed_kept}
use Rattle.vol_dir.proofs.listing.put_first.Goals as goal

pub returns-in_ok-insert : goal.returns-in_ok-insert
returns-in_ok-insert c =
    let key = c.name_key-key in
    let stored : IsSlotName c.name.result.now = subst IsSlotName (sym c.name.ensures) key.ensures.stored in
    let numbered : key.result ≡ key_of c.name.result.now = subst (λ xs. key.result ≡ key_of xs) (sym c.name.ensures) key.ensures.key in
    let made = listed_put c.args.names.now.entries c.insert.new.self.entries key.result _ c.name.result.now c.requires
    numbered stored (sym c.contains_key.ensures ∙ c.if-not-contains_key.true) c.in_ok-insert.ensures.entries c.in_ok-name.ensures.items in
    record { put = subst (λ xs. by_bytes c.insert.new.self.entries ≡ put_first (by_bytes c.args.names.now.entries) xs c.args.slot.inode) c.name.ensures made.0; keyed = made.1 }

pub returns-else-not-contains_key : goal.returns-else-not-contains_key
returns-else-not-contains_key c =
    let key = c.name_key-key in
    record {
      put = listed_kept c.args.names.now.entries key.result _ c.args.slot.inode c.requires key.ensures.key key.ensures.stored
          (sym c.contains_key.ensures ∙ c.if-not-contains_key.false);
      keyed = c.requires;
    }
