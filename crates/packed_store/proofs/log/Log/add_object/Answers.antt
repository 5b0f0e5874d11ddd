use Rattle.std.proofs.Common.{[], ℕ, ap, sym, ◌∙◌, append-nil, length}
use Rattle.git_name.specs.Object.{object_name, typed_bytes}
use Rattle.devices.specs.Device.{files_of}
use Rattle.packed_store.specs.Entry.{object_entry, object_kind, title_size, titled}
use Rattle.packed_store.proofs.AppendLemmas.{name_is_hash, object_before, object_file, object_right, object_spelled, placed}
use Rattle.packed_store.proofs.log.Log.add_object.Goals as goal

pub returns-clause-added : goal.returns-clause-added
returns-clause-added g c honest =
    let name = object_name c.args.sealed.now in
    let bytes = typed_bytes c.args.sealed.now in
    let kind = object_kind (length bytes) in
    c.add_bytes.ensures.added honest kind name bytes [] (c.in_ok-len.ensures.spelled ∙ object_spelled name bytes ∙ sym (append-nil (titled kind name bytes))) c.in_ok-len.ensures.name.length
    (ap (λ (n : ℕ). title_size (object_kind n)) (sym c.in_ok-len.ensures.len) ∙ sym c.object_title-title.ensures) (sym c.in_ok-len.ensures.len)

pub returns-clause-placed : goal.returns-clause-placed
returns-clause-placed g c honest =
    let name = object_name c.args.sealed.now in
    let bytes = typed_bytes c.args.sealed.now in
    placed (files_of (g.D.Device.past c.add_bytes.new.self.device)) name bytes _ (object_entry name bytes) c.object_title-title.result c.add_bytes.result c.in_ok-len.ensures.spelled
    (c.object_title-title.ensures ∙ ap (λ (n : ℕ). title_size (object_kind n)) c.in_ok-len.ensures.len ∙ object_before name bytes)
    (object_right name bytes c.in_ok-len.ensures.fits (name_is_hash c.args.sealed.now)) (object_file name bytes) (c.add_bytes.ensures.ended honest)
