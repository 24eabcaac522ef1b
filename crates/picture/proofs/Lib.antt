-- The law that rests on the bit where the next plane begins; callers cite it too.
pub mod PictureLaws
