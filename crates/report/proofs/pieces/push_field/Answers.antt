use Rattle.std.proofs.Common.{◌∙◌, ◌++◌, ℕ, List, Option, [], slice_get, string_bytes, sym, ap}
use Rattle.std.specs.Prelude.{option_and_then}
use Rattle.std.specs.Option.{option_copied, option_map_or}
use Rattle.std.proofs.lemmas.List.{append-nil}
use Rattle.std.proofs.lemmas.Result.{on_ok_weaker}
use Rattle.core_lang.specs.declared.shape.Pool.{Pool}
use Rattle.core_lang.specs.declared.typed.Field.{Field}
use Rattle.core_lang.specs.declared.typed.Struct.{Struct}
use Rattle.locks.specs.Theory.Written.{item_here, item_past, piece_added}
use Rattle.report.proofs.pieces.push_field.Goals as goal

-- the name of a field, by the field that was found on the way to it
module _ (structs : List Struct) (field : ℕ) where
  abbrev name : Option Field → List ℕ
  name found = option_map_or (λ (f : Field). string_bytes f.name) found []

  abbrev in_struct : Option Struct → List ℕ
  in_struct found = name (option_and_then (λ (s : Struct). slice_get s.fields.items field) found)

  abbrev in_pool : Option Pool → List ℕ
  in_pool found = in_struct (option_and_then (λ (p : Pool). slice_get structs p.structure) found)

pub returns-in-Some-get-2 : goal.returns-in-Some-get-2
returns-in-Some-get-2 c =
    let structs = c.args.program.now.structs.items in
    let k = c.args.field in
    let p = c.in-Some.pool.now in
    let s = c.in-Some-get.structure.now in
    let old = string_bytes c.args.out.now in
    let pool = sym c.pool_of.ensures ∙ ap option_copied c.in-Some.is in
    let structure = item_here structs c.deref.result.now p.structure c.deref.ensures.value c.in-Some-get.structure c.in-Some-get.ensures.lookup in
    let there = item_here s.fields.items c.deref-2.result.now k c.deref-2.ensures.value c.in-Some-get-2.field c.in-Some-get-2.ensures.lookup in
    on_ok_weaker c.push_str.result
    (λ e. e ∙ ap (λ (t : List ℕ). old ++ t)
    (c.as_str.ensures.value ∙ sym (ap (name structs k) there) ∙ sym (ap (in_struct structs k) structure) ∙ sym (ap (in_pool structs k) pool)))
    (piece_added c.push_str.result _ old c.as_str.result.now c.push_str.ensures.bytes)

pub returns-in-None : goal.returns-in-None
returns-in-None c =
    let structs = c.args.program.now.structs.items in
    let k = c.args.field in
    let p = c.in-Some.pool.now in
    let s = c.in-Some-get.structure.now in
    let old = string_bytes c.args.out.now in
    let pool = sym c.pool_of.ensures ∙ ap option_copied c.in-Some.is in
    let structure = item_here structs c.deref.result.now p.structure c.deref.ensures.value c.in-Some-get.structure c.in-Some-get.ensures.lookup in
    let past = item_past s.fields.items c.deref-2.result.now k c.deref-2.ensures.value c.in-None.ensures.lookup in
    sym (ap (λ (t : List ℕ). old ++ t) (ap (in_pool structs k) pool ∙ ap (in_struct structs k) structure ∙ ap (name structs k) past) ∙ append-nil old)

pub returns-in_default-get : goal.returns-in_default-get
returns-in_default-get c =
    let structs = c.args.program.now.structs.items in
    let k = c.args.field in
    let old = string_bytes c.args.out.now in
    let pool = sym c.pool_of.ensures ∙ ap option_copied c.in-Some.is in
    let past = item_past structs c.deref.result.now c.in-Some.pool.now.structure c.deref.ensures.value c.in_default-get.ensures.lookup in
    sym (ap (λ (t : List ℕ). old ++ t) (ap (in_pool structs k) pool ∙ ap (in_struct structs k) past) ∙ append-nil old)
